use Rattle.std.proofs.Common.{◌≡◌, ℕ, Some}
use Rattle.std.specs.Prelude.{slice_get}
use Rattle.level_harness.specs.Walkers.{IsWalker}
use Rattle.level_harness.proofs.rounds.round.Given as goal

-- each caller stands as its contract allows, before its step and behind it
abbrev pub invariant-loop-walker : goal.invariant-loop-walker
invariant-loop-walker g l = (k : ℕ) (w : _) → slice_get l.walkers k ≡ Some w → IsWalker g.C.Pass.Resting.rest g.C.Queue.Climbing.climb
    g.C.Queue.Climbing.climbs g.C.Held.Standing.stand g.C.Held.Standing.stands g.C.Leave.Descending.descent g.C.Leave.Descending.descends
    (g.C.Composed.has l.lock) (g.C.Composed.level l.lock) (g.C.Composed.tag l.lock) k w
