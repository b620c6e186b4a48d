use Rattle.std.proofs.Common.{◌≡◌, ◌+◌, ◌-◌, ◌<◌, ◌≤◌, ℕ, length, slice_index}
use Rattle.lock_select.specs.Walks.{IsCommon}
use Rattle.lock_select.proofs.nodes.common_depths.Given as goal

abbrev pub invariant-loop-turn : goal.invariant-loop-turn
invariant-loop-turn l = record {
  count : length l.commons.items ≡ l.turn - 1;
  within : l.turn - 1 ≤ length l.trace - 1;
  are : (k : ℕ) → k < length l.commons.items
      → IsCommon l.tree (slice_index l.trace k) (slice_index l.trace (k + 1)) (slice_index l.commons.items k);
}
