use Rattle.std.proofs.Common.{◌≡◌, ℕ, ◌<◌, ◌≤◌}
use Rattle.std.specs.Int.{bit_at}
use Rattle.run_check.proofs.turns.has_tests_below.Given as goal

abbrev pub invariant-loop-level : goal.invariant-loop-level
invariant-loop-level l = (k : ℕ) → k < l.level → bit_at l.tests k ≡ 1 → (k ≤ l.left) × (k < l.top)
