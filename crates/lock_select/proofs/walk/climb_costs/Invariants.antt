use Rattle.std.proofs.Common.{◌≡◌, ◌*◌, ◌<◌, ◌≤◌, ℕ, length, take, slice_index}
use Rattle.std.specs.List.{sum_by}
use Rattle.lock_select.specs.Costs.{climb_cost}
use Rattle.lock_select.proofs.walk.climb_costs.Given as goal

abbrev pub invariant-loop-level : goal.invariant-loop-level
invariant-loop-level l = record {
  size : length l.costs ≡ 5;
  so_far : l.cost ≡ sum_by (slice_index l.weights) (take l.level l.depths);
  bound : l.cost ≤ l.level * 1000000;
  costs_are : (k : ℕ) → k < l.level → slice_index l.costs k ≡ climb_cost l.weights l.depths k;
  few : (k : ℕ) → slice_index l.costs k ≤ 5000000;
}
