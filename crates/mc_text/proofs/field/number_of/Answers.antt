use Rattle.std.proofs.Common.{◌∙◌, ◌+◌, Some, ap, sym, arith}
use Rattle.mc_text.proofs.Numbers.{digit_word}
use Rattle.mc_text.proofs.field.number_of.Goals as goal

pub returns-in-len1-clause-number : goal.returns-in-len1-clause-number
returns-in-len1-clause-number c =
    ap Some c.from.ensures
    ∙ sym (digit_word (c.args.greatest + 1) c.args.word.now (omega arith) (omega arith) (omega arith) (omega arith))
