use Rattle.std.proofs.Common.{◌≡◌, ℕ, Some}
use Rattle.std.specs.Prelude.{slice_get}
use Rattle.walked_runner.specs.Walkers.{IsWalker}
use Rattle.walked_runner.proofs.rounds.step_on.Given as goal

-- each caller stands as its contract allows, between rounds
abbrev pub invariant-loop : goal.invariant-loop
invariant-loop g l = (k : ℕ) (w : _) → slice_get l.walkers k ≡ Some w → IsWalker g.C.Pass.Resting.rest g.C.Queue.Climbing.climb
    g.C.Queue.Climbing.climbs g.C.Held.Standing.stand g.C.Held.Standing.stands g.C.Leave.Descending.descent g.C.Leave.Descending.descends
    (g.C.Composed.has l.lock) (g.C.Composed.level l.lock) (g.C.Composed.tag l.lock) k w
