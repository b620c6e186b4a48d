use Rattle.std.proofs.Common.{ℕ, ◌<◌}
use Rattle.keep_local.specs.Turns.{IsDue}
use Rattle.keep_local.proofs.checker.level_to_leave.Given as goal

abbrev pub invariant-loop-level : goal.invariant-loop-level
invariant-loop-level l = (k : ℕ) → k < l.level → ¬ IsDue l.shape l.before l.tests k
