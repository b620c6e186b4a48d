use Rattle.std.proofs.Common.{◌≡◌, true}
use Rattle.std.specs.Prelude.{All}
use Rattle.lock_trials.proofs.tests.trails.plays.Given as goal

abbrev pub invariant-loop-turn : goal.invariant-loop-turn
invariant-loop-turn l = record { own : All (λ share. share.name ≡ l.trail.name) l.shares.items; recorded : l.trail.recorded ≡ true }
