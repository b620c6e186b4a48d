use Rattle.std.proofs.Common.{◌≡◌}
use Rattle.std.specs.Prelude.{All}
use Rattle.lock_trials.proofs.tests.trails.plays_unrecorded.Given as goal

abbrev pub invariant-loop-turn : goal.invariant-loop-turn
invariant-loop-turn l = All (λ share. share.name ≡ l.trail.name) l.shares.items
