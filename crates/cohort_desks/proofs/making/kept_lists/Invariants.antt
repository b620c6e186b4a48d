use Rattle.std.proofs.Common.{◌≡◌, ◌≤◌, ℕ, [], length, vec_capacity, Some}
use Rattle.std.specs.Prelude.{slice_get}
use Rattle.cohort_desks.proofs.making.kept_lists.Given as goal

abbrev pub invariant-loop : goal.invariant-loop
invariant-loop g l = record {
  count : length l.lists.items ≡ l.counter;
  each : (i : ℕ) (v : _) → slice_get l.lists.items i ≡ Some v → (v.items ≡ []) × (l.many ≤ vec_capacity v);
  room : l.count ≤ vec_capacity l.lists;
}
