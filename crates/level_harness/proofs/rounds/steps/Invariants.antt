use Rattle.std.proofs.Common.{◌≡◌, ℕ, Some, length, vec_capacity}
use Rattle.std.specs.Prelude.{slice_get}
use Rattle.level_harness.specs.Walkers.{IsWalker}
use Rattle.level_harness.proofs.rounds.steps.Given as goal

-- each caller stands as its contract allows, before its step and behind it; where each stood fits the room
abbrev pub invariant-loop-caller : goal.invariant-loop-caller
invariant-loop-caller g l = record {
  each : (k : ℕ) (w : _) → slice_get l.walkers k ≡ Some w → IsWalker g.C.Pass.Resting.rest g.C.Queue.Climbing.climb
      g.C.Queue.Climbing.climbs g.C.Held.Standing.stand g.C.Held.Standing.stands g.C.Leave.Descending.descent g.C.Leave.Descending.descends
      (g.C.Composed.has l.lock) (g.C.Composed.level l.lock) (g.C.Composed.tag l.lock) k w;
  many : length l.stood.items ≡ l.caller-index;
  room : vec_capacity l.stood ≡ vec_capacity l.fn.stood;
}
