use Rattle.std.proofs.Common.{◌≡◌, ℕ, Some}
use Rattle.std.specs.Prelude.{slice_get}
use Rattle.level_harness.specs.Walkers.{IsWalker}
use Rattle.level_harness.proofs.walks.make_rounds.Given as goal

abbrev pub invariant-loop : goal.invariant-loop
invariant-loop g l = (k : ℕ) (w : _) → slice_get l.walkers k ≡ Some w → IsWalker g.C.Pass.Resting.rest g.C.Queue.Climbing.climb
    g.C.Queue.Climbing.climbs g.C.Held.Standing.stand g.C.Held.Standing.stands g.C.Leave.Descending.descent g.C.Leave.Descending.descends
    (g.C.Composed.has l.lock) (g.C.Composed.level l.lock) (g.C.Composed.tag l.lock) k w
