use Rattle.std.proofs.Common.{◌≡◌, true, leb, length, arith}
use Rattle.std.proofs.lemmas.Bool.{le-leb}
use Rattle.mc_text.proofs.field.is_key.Goals as goal

pub returns-then-word-le-KEY_LIMIT : goal.returns-then-word-le-KEY_LIMIT
returns-then-word-le-KEY_LIMIT c =
    let word = c.args.word.now in
    let short : leb (length word) 250 ≡ true = le-leb (length word) 250 (omega arith) in
    rw short c.are_seen.ensures
