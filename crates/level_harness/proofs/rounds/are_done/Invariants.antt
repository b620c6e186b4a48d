use Rattle.std.proofs.Common.{◌≡◌, ℕ, ◌<◌, Some}
use Rattle.std.specs.Prelude.{slice_get}
use Rattle.level_harness.specs.Walkers.{IsDone}
use Rattle.level_harness.proofs.rounds.are_done.Given as goal

abbrev pub invariant-loop-walker : goal.invariant-loop-walker
invariant-loop-walker g l = (k : ℕ) (w : _) → k < l.walker-index → slice_get l.walkers k ≡ Some w → IsDone w
