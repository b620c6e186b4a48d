use Rattle.std.proofs.Common.{length, ◌≡◌, sym, arith}
use Rattle.std.proofs.lemmas.Grind.{same_number_lists}
use Rattle.std.proofs.lemmas.Slice.Eq.{bytes_eq-Decides}
use Rattle.mc_text.proofs.row.is_named.Goals as goal

pub returns : goal.returns
returns c =
    let long : length c.args.name.now ≡ length c.args.word.now = omega (arith, c.if-name-word.false) in
    sym ((bytes_eq-Decides c.args.name.now c.args.word.now).1
    (same_number_lists _ _ long (λ k lt. c.loop-place.invariant k (omega (arith, c.loop-place-test.false)))))
