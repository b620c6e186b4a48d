use Rattle.std.proofs.Common.{Some, sym, ap, ◌∙◌}
use Rattle.cpu_set.proofs.ListSteps.{whole_ends, cut_ends, rule_whole, rule_cut, rule_open}
use Rattle.cpu_set.proofs.read_list.read_item.Goals as goal

pub returns-in-None-clause-first : goal.returns-in-None-clause-first
returns-in-None-clause-first c = rw (whole_ends c.args.item.now c.in-None.ensures).low_is c.read_range.ensures.first

pub returns-in-None-clause-last : goal.returns-in-None-clause-last
returns-in-None-clause-last c = rw (whole_ends c.args.item.now c.in-None.ensures).high_is c.read_range.ensures.last

pub returns-in-None-clause-good : goal.returns-in-None-clause-good
returns-in-None-clause-good c = rw (rule_whole c.args.at c.args.item.now c.in-None.ensures) c.read_range.ensures.good

pub returns-in-None-clause-fault : goal.returns-in-None-clause-fault
returns-in-None-clause-fault c = rw (rule_whole c.args.at c.args.item.now c.in-None.ensures) c.read_range.ensures.fault

pub returns-then-is_empty-clause-fault : goal.returns-then-is_empty-clause-fault
returns-then-is_empty-clause-fault c =
    rule_open c.args.at c.args.item.now c.in-Some.low.now c.in-Some.high.now c.in-Some.ensures (sym c.if-is_empty.ensures)
    ∙ ap Some (sym c.open_fault.ensures)

pub returns-else-is_empty-clause-first : goal.returns-else-is_empty-clause-first
returns-else-is_empty-clause-first c =
    rw (cut_ends c.args.item.now c.in-Some.low.now c.in-Some.high.now c.in-Some.ensures).low_is c.read_range-else-is_empty.ensures.first

pub returns-else-is_empty-clause-last : goal.returns-else-is_empty-clause-last
returns-else-is_empty-clause-last c =
    rw (cut_ends c.args.item.now c.in-Some.low.now c.in-Some.high.now c.in-Some.ensures).high_is c.read_range-else-is_empty.ensures.last

pub returns-else-is_empty-clause-good : goal.returns-else-is_empty-clause-good
returns-else-is_empty-clause-good c =
    rw (rule_cut c.args.at c.args.item.now c.in-Some.low.now c.in-Some.high.now c.in-Some.ensures (sym c.if-is_empty.ensures))
    c.read_range-else-is_empty.ensures.good

pub returns-else-is_empty-clause-fault : goal.returns-else-is_empty-clause-fault
returns-else-is_empty-clause-fault c =
    rw (rule_cut c.args.at c.args.item.now c.in-Some.low.now c.in-Some.high.now c.in-Some.ensures (sym c.if-is_empty.ensures))
    c.read_range-else-is_empty.ensures.fault
