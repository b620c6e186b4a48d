use Rattle.std.proofs.Common.{Some, sym, ◌∙◌}
use Rattle.cpu_set.proofs.PartLemmas.{first_of_parts}
use Rattle.cpu_set.proofs.ListSteps.{ListSoFar, list_empty, list_start, list_more, list_all_read}
use Rattle.cpu_set.proofs.set.CpuSet.read_list.Goals as goal
use Rattle.cpu_set.proofs.set.CpuSet.read_list.Goals.{then-is_empty, else-is_empty}

pub loop-rest-init : goal.loop-rest-init
loop-rest-init c =
    rw c.empty-set.ensures (elim c.if-is_empty.branch [
      | then-is_empty w ↦ rw w.rest-is (list_empty c.args.text.now (sym c.is_empty.ensures ∙ w.if-is_empty.true))
      | else-is_empty w ↦ rw w.rest-is (list_start c.args.text (sym c.is_empty.ensures ∙ w.if-is_empty.false))
    ])

pub loop-rest-preserved : goal.loop-rest-preserved
loop-rest-preserved c =
    let so_far : ListSoFar c.args.text.now (Some c.in-Some.items) c.loop-rest.at c.loop-rest.set =
    rw c.in-Some.is at c.loop-rest.invariant in
    list_more c.args.text.now c.in-Some.items c.loop-rest.at c.loop-rest.set c.first_part.result.0.now c.first_part.result.1 so_far
    (first_of_parts c.in-Some.items.now c.first_part.result.0.now c.first_part.result.1 c.first_part.ensures)
    c.in_ok-run.run'.first c.in_ok-run.run'.last c.add_range.new.self c.in_ok-run.ensures.good c.in_ok-run.ensures.first
    c.in_ok-run.ensures.last c.add_range.ensures

pub returns-clause-set : goal.returns-clause-set
returns-clause-set c = list_all_read c.args.text.now c.loop-rest.at c.loop-rest.set (rw c.in_default.is at c.loop-rest.invariant)
