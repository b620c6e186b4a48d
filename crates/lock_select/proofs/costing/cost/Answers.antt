use Rattle.std.proofs.Common.{◌≡◌, ◌<◌, ◌≤◌, ◌+◌, ◌-◌, [], ◌∷◌, ℕ, arith, length, ap, subst, sym, ◌∙◌}
use Rattle.std.specs.Prelude.{slice_index}
use Rattle.std.proofs.lemmas.Bool.{eqb-true, eqb-false}
use Rattle.lock_select.specs.Walks.{IsCommon}
use Rattle.lock_select.specs.Nodes.{AreLevels}
use Rattle.lock_select.specs.Traces.{Visits}
use Rattle.lock_select.specs.Costs.{cost_of}
use Rattle.lock_select.proofs.NodeLaws.{some_levels}
use Rattle.lock_select.proofs.Walked.{none_cost, no_runs, starts, goes_on, ends}
use Rattle.lock_select.proofs.costing.cost.Goals as goal

pub returns-then-is_empty : goal.returns-then-is_empty
returns-then-is_empty g c =
    none_cost (g.T.AsTree.described c.args.topology.now) c.args.weights.now c.args.depths.now c.args.keep c.args.trace.now
    (eqb-true (length c.args.trace.now) 0 (sym c.is_empty.ensures ∙ c.if-is_empty.true))

pub loop-turn-init : goal.loop-turn-init
loop-turn-init g c =
    let described = c.as_tree-tree.result.now in
    let costs = c.climb_costs-costs.result in
    let depths = c.args.depths.now in
    let levels : AreLevels described depths =
    subst (λ d. AreLevels d depths) (sym c.as_tree-tree.ensures) c.requires.levels in
    let some = some_levels described depths levels in
    let top : length depths - 1 < length depths = omega (arith, some) in
    let turns = eqb-false (length c.args.trace.now) 0 (sym c.is_empty.ensures ∙ c.if-is_empty.false) in
    record {
      walked = starts described c.args.weights.now depths c.args.keep c.args.trace.now (0 ∷ 0 ∷ 0 ∷ 0 ∷ 0 ∷ [])
          c.first_cost-cost.result (omega (arith, turns)) no_runs
          (c.first_cost-cost.ensures ∙ c.climb_costs-costs.ensures.costs (length depths - 1) top);
      bound = let few = c.climb_costs-costs.ensures.few (length depths - 1) in omega (arith, c.first_cost-cost.ensures, few);
    }

pub loop-turn-preserved : goal.loop-turn-preserved
loop-turn-preserved g c =
    let described = c.as_tree-tree.result.now in
    let depths = c.args.depths.now in
    let trace = c.args.trace.now in
    let turn = c.loop-turn.turn in
    let left = c.hand_on.result in
    let levels : AreLevels described depths =
    subst (λ d. AreLevels d depths) (sym c.as_tree-tree.ensures) c.requires.levels in
    let visits : Visits described trace = subst (λ d. Visits d trace) (sym c.as_tree-tree.ensures) c.requires.trace in
    let from = c.loop-turn.auto.turn in
    let here = c.loop-turn-test.true in
    let next : turn ≡ turn - 1 + 1 = omega (arith, from) in
    let common : IsCommon described (slice_index trace (turn - 1)) (slice_index trace (turn - 1 + 1)) c.common_depth-common.result =
    subst (λ (n : ℕ). IsCommon described (slice_index trace (turn - 1)) (slice_index trace n) c.common_depth-common.result) next
    c.common_depth-common.ensures.common in
    let some = some_levels described depths levels in
    let within = c.hand_on.ensures.within in
    let bound = c.loop-turn.invariant.bound in
    let few = c.climb_costs-costs.ensures.few left in
    record {
      walked = goes_on described c.args.weights.now depths c.args.keep trace levels visits (turn - 1) c.common_depth-common.result
          c.loop-turn.runs c.hand_on.new.runs left c.loop-turn.cost (omega (arith, here, from)) common c.loop-turn.invariant.walked
          c.hand_on.ensures (turn + 1 - 1) (slice_index c.climb_costs-costs.result left) (omega (arith, from))
          (c.climb_costs-costs.ensures.costs left (omega (arith, some, within)));
      bound = omega (arith, bound, few);
    }

pub returns : goal.returns
returns g c =
    let described = c.as_tree-tree.result.now in
    let trace = c.args.trace.now in
    let turns = eqb-false (length trace) 0 (sym c.is_empty.ensures ∙ c.if-is_empty.false) in
    let some : 1 ≤ length trace = omega (arith, turns) in
    let from = c.loop-turn.auto.turn in
    let last = c.loop-turn.auto.turn-end some in
    let over = c.loop-turn-test.false in
    ends described c.args.weights.now c.args.depths.now c.args.keep trace (c.loop-turn.turn - 1) c.loop-turn.runs c.loop-turn.cost
    (omega (arith, from, last, over)) c.loop-turn.invariant.walked
    ∙ ap (λ d. cost_of d c.args.weights.now c.args.depths.now c.args.keep trace) c.as_tree-tree.ensures
