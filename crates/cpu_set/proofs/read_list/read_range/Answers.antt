use Rattle.std.proofs.lemmas.Bool.{false≢true}
use Rattle.std.proofs.Common.{sym, ◌∙◌}
use Rattle.cpu_set.proofs.ListSteps.{range_good, range_high, range_low, range_not_low, range_not_high}
use Rattle.cpu_set.proofs.read_list.read_range.Goals as goal

pub returns-in-TooLarge-TooLarge-2-clause-fault : goal.returns-in-TooLarge-TooLarge-2-clause-fault
returns-in-TooLarge-TooLarge-2-clause-fault c =
    range_low c.args.at c.args.low.now c.args.high.now (rw c.in-TooLarge-TooLarge.is-0 at c.read_numeral.ensures)
    (rw c.in-TooLarge-TooLarge.is-1 at c.read_numeral-2.ensures)
    (λ less. false≢true (sym c.if-is_above.false ∙ c.is_above.ensures.1 less))

pub returns-in-Number-Number-2-clause-good : goal.returns-in-Number-Number-2-clause-good
returns-in-Number-Number-2-clause-good c =
    range_good c.args.at c.args.low.now c.args.high.now c.in-Number-Number.first c.in-Number-Number.last
    (rw c.in-Number-Number.is-0 at c.read_numeral.ensures) (rw c.in-Number-Number.is-1 at c.read_numeral-2.ensures) c.if-first-last.false

pub returns-in-Number-TooLarge-clause-fault : goal.returns-in-Number-TooLarge-clause-fault
returns-in-Number-TooLarge-clause-fault c =
    range_high c.args.at c.args.low.now c.args.high.now c.in-Number-TooLarge.field-0-0
    (rw c.in-Number-TooLarge.is-0 at c.read_numeral.ensures) (rw c.in-Number-TooLarge.is-1 at c.read_numeral-2.ensures)

pub returns-in-NotNumeral-default-clause-fault : goal.returns-in-NotNumeral-default-clause-fault
returns-in-NotNumeral-default-clause-fault c =
    range_not_low c.args.at c.args.low.now c.args.high.now (rw c.in-NotNumeral-default.is-0 at c.read_numeral.ensures)

pub returns-in-NotNumeral-default-2-clause-fault : goal.returns-in-NotNumeral-default-2-clause-fault
returns-in-NotNumeral-default-2-clause-fault c =
    range_not_high c.args.at c.args.low.now c.args.high.now (rw c.in-NotNumeral-default.is-1 at c.read_numeral-2.ensures)

pub returns-in-NotNumeral-default-4-clause-fault : goal.returns-in-NotNumeral-default-4-clause-fault
returns-in-NotNumeral-default-4-clause-fault c =
    range_not_high c.args.at c.args.low.now c.args.high.now (rw c.in-NotNumeral-default.is-1 at c.read_numeral-2.ensures)
