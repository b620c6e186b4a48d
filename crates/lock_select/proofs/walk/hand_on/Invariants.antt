use Rattle.std.proofs.Common.{◌≡◌, ◌<◌, ◌≤◌, ℕ, slice_index}
use Rattle.lock_select.proofs.walk.hand_on.Given as goal

abbrev pub invariant-loop-level : goal.invariant-loop-level
invariant-loop-level l = record {
  least : (k : ℕ) → k < l.level → slice_index l.depths k ≤ l.common → slice_index l.initial.runs k < l.keep → ⊥;
  ended : (k : ℕ) → k < l.level → slice_index l.runs k ≡ 0;
  others : (k : ℕ) → l.level ≤ k → slice_index l.runs k ≡ slice_index l.initial.runs k;
}
