use Rattle.std.proofs.Common.{sym, arith}
use Rattle.byte_text.proofs.NumeralLaws.{capped_is, capped_over, capped_none}
use Rattle.byte_text.proofs.decimals.number_capped.Goals as goal

pub returns-in-Number : goal.returns-in-Number
returns-in-Number c = let h = c.in-Number.ensures in sym (capped_is _ c.args.text.now h.0 h.1 (omega arith))

pub returns-in-TooLarge : goal.returns-in-TooLarge
returns-in-TooLarge c = let h = c.in-TooLarge.ensures in sym (capped_over c.args.text.now h.0 (omega arith))

pub returns-in-NotNumeral : goal.returns-in-NotNumeral
returns-in-NotNumeral c = sym (capped_none c.args.text.now c.in-NotNumeral.ensures)
