use Rattle.std.proofs.Common.{◌<◌, ◌+◌, ◌-◌, [], ◌∷◌, arith, length, refl, subst, sym, ◌∙◌}
use Rattle.std.specs.Prelude.{slice_index}
use Rattle.std.proofs.lemmas.Bool.{eqb-true, eqb-false}
use Rattle.lock_select.specs.Walks.{IsCommon}
use Rattle.lock_select.proofs.NodeLaws.{some_levels}
use Rattle.lock_select.proofs.Walked.{none_cost, no_runs, starts, goes_on, ends}
use Rattle.lock_select.proofs.question.Question.cost.Goals as goal

pub returns-then-is_empty : goal.returns-then-is_empty
returns-then-is_empty c =
    none_cost c.args.self.now.tree.now c.args.self.now.weights.now c.args.depths.now c.args.self.now.keep c.args.self.now.trace.now
    (eqb-true (length c.args.self.now.trace.now) 0 (sym c.is_empty.ensures ∙ c.if-is_empty.true))

pub loop-common-init : goal.loop-common-init
loop-common-init c =
    let costs = c.climb_costs-costs.result in
    let depths = c.args.depths.now in
    let some = some_levels c.args.self.now.tree.now depths c.requires.levels in
    let top : length depths - 1 < length depths = omega (arith, some) in
    let turns = eqb-false (length c.args.self.now.trace.now) 0 (sym c.is_empty.ensures ∙ c.if-is_empty.false) in
    record {
      walked = starts c.args.self.now.tree.now c.args.self.now.weights.now depths c.args.self.now.keep c.args.self.now.trace.now
          (0 ∷ 0 ∷ 0 ∷ 0 ∷ 0 ∷ []) c.first_cost-cost.result (omega (arith, turns)) no_runs
          (c.first_cost-cost.ensures ∙ c.climb_costs-costs.ensures.costs (length depths - 1) top);
      bound = let few = c.climb_costs-costs.ensures.few (length depths - 1) in omega (arith, c.first_cost-cost.ensures, few);
    }

pub loop-common-preserved : goal.loop-common-preserved
loop-common-preserved c =
    let q = c.args.self.now in
    let depths = c.args.depths.now in
    let asked = c.requires.asked in
    let turn = c.loop-common.common-index in
    let left = c.hand_on.result in
    let count = asked.commons.count in
    let here : turn < length q.commons.now = c.loop-common-test.true in
    let common : IsCommon q.tree.now (slice_index q.trace.now turn) (slice_index q.trace.now (turn + 1)) c.from.result =
    subst (IsCommon q.tree.now (slice_index q.trace.now turn) (slice_index q.trace.now (turn + 1))) (sym c.from.ensures)
    (asked.commons.are turn here) in
    let some = some_levels q.tree.now depths c.requires.levels in
    let within = c.hand_on.ensures.within in
    let bound = c.loop-common.invariant.bound in
    let few = c.climb_costs-costs.ensures.few left in
    record {
      walked = goes_on q.tree.now q.weights.now depths q.keep q.trace.now c.requires.levels asked.trace turn c.from.result
          c.loop-common.runs c.hand_on.new.runs left c.loop-common.cost (omega (arith, here, count)) common c.loop-common.invariant.walked
          c.hand_on.ensures (turn + 1) (slice_index c.climb_costs-costs.result left) refl
          (c.climb_costs-costs.ensures.costs left (omega (arith, some, within)));
      bound = omega (arith, bound, few);
    }

pub returns : goal.returns
returns c =
    let q = c.args.self.now in
    let turns = eqb-false (length q.trace.now) 0 (sym c.is_empty.ensures ∙ c.if-is_empty.false) in
    let count = c.requires.asked.commons.count in
    let last = c.loop-common.auto.common-index-end in
    let over = c.loop-common-test.false in
    ends q.tree.now q.weights.now c.args.depths.now q.keep q.trace.now c.loop-common.common-index c.loop-common.runs c.loop-common.cost
    (omega (arith, turns, count, last, over)) c.loop-common.invariant.walked
