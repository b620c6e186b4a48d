use Rattle.std.proofs.Common.{subst, inl, inr}
use Rattle.byte_text.specs.Numerals.{Reads}
use Rattle.mc_text.proofs.Numbers.{level_is, level_none}
use Rattle.mc_text.proofs.field.read_level.Goals as goal

pub returns-in-Number : goal.returns-in-Number
returns-in-Number c =
    let word = c.args.word.now in
    elim c.in-Number.is [
      | inl number ↦ level_is word (subst (λ r. Reads 10 0 word r) number.1 c.read_numeral.ensures).0
      | inr large ↦ level_is word (subst (λ r. Reads 10 0 word r) large c.read_numeral.ensures).0
    ]

pub returns-in-NotNumeral : goal.returns-in-NotNumeral
returns-in-NotNumeral c = level_none c.args.word.now c.in-NotNumeral.ensures
