use Rattle.std.proofs.Common.{◌∙◌, sym, arith}
use Rattle.byte_text.proofs.NumeralLaws.{below_limit, from_limit, none_below}
use Rattle.byte_text.proofs.decimals.number_up_to.Goals as goal

pub returns-in_err-number-clause-number : goal.returns-in_err-number-clause-number
returns-in_err-number-clause-number c = c.from_residual.ensures ∙ sym (none_below _ c.args.text.now c.in_err-number.ensures)

pub returns-then-number-greatest-clause-number : goal.returns-then-number-greatest-clause-number
returns-then-number-greatest-clause-number c =
    let h = c.in_ok-number.ensures in sym (below_limit _ _ c.args.text.now h.0 h.1 (omega arith))

pub returns-else-number-greatest-clause-number : goal.returns-else-number-greatest-clause-number
returns-else-number-greatest-clause-number c =
    let h = c.in_ok-number.ensures in sym (from_limit _ c.args.text.now (omega (arith, h.1)))

pub returns-in-Number-clause-number : goal.returns-in-Number-clause-number
returns-in-Number-clause-number c = let h = c.in-Number.ensures in sym (below_limit _ _ c.args.text.now h.0 h.1 (omega arith))

pub returns-in-TooLarge-clause-number : goal.returns-in-TooLarge-clause-number
returns-in-TooLarge-clause-number c = let h = c.in-TooLarge.ensures in sym (from_limit _ c.args.text.now (omega arith))

pub returns-in-NotNumeral-clause-number : goal.returns-in-NotNumeral-clause-number
returns-in-NotNumeral-clause-number c = sym (none_below _ c.args.text.now c.in-NotNumeral.ensures)
