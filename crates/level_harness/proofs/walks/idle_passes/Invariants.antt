use Rattle.std.proofs.Common.{◌≡◌, ℕ, ◌+◌, length, reverse, Some, vec_capacity, vec_len}
use Rattle.std.specs.Prelude.{slice_get}
use Rattle.clof_compose.specs.Passes.{AreFrom}
use Rattle.level_harness.specs.Walkers.{IsDone, IsWalker}
use Rattle.level_harness.proofs.walks.idle_passes.Given as goal

-- the callers that have left the list have given their passes, the last one first
abbrev pub invariant-loop-walker : goal.invariant-loop-walker
invariant-loop-walker g l = record {
  each : (k : ℕ) (w : _) → slice_get l.walkers.items k ≡ Some w → IsWalker g.C.Pass.Resting.rest
      g.C.Queue.Climbing.climb g.C.Queue.Climbing.climbs g.C.Held.Standing.stand g.C.Held.Standing.stands
      g.C.Leave.Descending.descent g.C.Leave.Descending.descends
      (g.C.Composed.has l._lock) (g.C.Composed.level l._lock) (g.C.Composed.tag l._lock) k w;
  done : (k : ℕ) (w : _) → slice_get l.walkers.items k ≡ Some w → IsDone w;
  behind : AreFrom (λ p. (g.C.Pass.Resting.rest p).context) (g.C.Composed.has l._lock) (g.C.Composed.level l._lock)
      (g.C.Composed.tag l._lock) (length l.walkers.items) (reverse l.passes.items);
  counted : length l.walkers.items + length l.passes.items ≡ length l.fn.walkers.items;
  room : vec_capacity l.passes ≡ vec_capacity l.fn.passes;
}

abbrev pub decreases-loop-walker : goal.decreases-loop-walker
decreases-loop-walker g l = vec_len l.walkers
