use Rattle.std.proofs.Common.{ℕ, ◌<◌}
use Rattle.keep_local.specs.Turns.{IsDue}
use Rattle.run_check.proofs.turns.Turns.left.Given as goal

abbrev pub invariant-loop-level : goal.invariant-loop-level
invariant-loop-level l = (k : ℕ) → k < l.level → ¬ IsDue l.shape l.self l.tests k
