use Rattle.std.proofs.Common.{sym}
use Rattle.byte_text.proofs.NumeralLaws.{in_range, under_range, over_range, no_number}
use Rattle.byte_text.proofs.decimals.number_in.Goals as goal

pub returns-then-low-number-clause-number : goal.returns-then-low-number-clause-number
returns-then-low-number-clause-number c =
    let h = c.in-Number.ensures in
    sym (in_range c.args.low c.args.high c.in-Number.number c.args.text.now h.0 h.1 c.if-low-number.true h.2)

pub returns-else-low-number-clause-number : goal.returns-else-low-number-clause-number
returns-else-low-number-clause-number c =
    let h = c.in-Number.ensures in
    sym (under_range c.args.low c.args.high c.in-Number.number c.args.text.now h.0 h.1 c.if-low-number.false)

pub returns-in-TooLarge-clause-number : goal.returns-in-TooLarge-clause-number
returns-in-TooLarge-clause-number c = sym (over_range c.args.low c.args.high c.args.text.now c.in-TooLarge.ensures.1)

pub returns-in-NotNumeral-clause-number : goal.returns-in-NotNumeral-clause-number
returns-in-NotNumeral-clause-number c = sym (no_number c.args.low c.args.high c.args.text.now c.in-NotNumeral.ensures)
