use Rattle.std.proofs.Common.{◌≡◌, true}
use Rattle.lock_trials.proofs.tests.trails.longest_run.Given as goal

abbrev pub invariant-loop-turn : goal.invariant-loop-turn
invariant-loop-turn l = record { own : l.share.name ≡ l.trail.name; recorded : l.trail.recorded ≡ true }
