use Rattle.std.proofs.Common.{◌≡◌, ℕ, ◌+◌, length, reverse, Some, vec_capacity, vec_len}
use Rattle.std.specs.Prelude.{slice_get}
use Rattle.threaded_runner.specs.Jobs.{IsServed}
use Rattle.walked_runner.specs.Walkers.{IsDone, IsWalker}
use Rattle.walked_runner.proofs.seating.rise.Given as goal

-- the callers that have left the list have given their jobs, the last one first
abbrev pub invariant-loop-walker : goal.invariant-loop-walker
invariant-loop-walker g l = record {
  each : (k : ℕ) (w : _) → slice_get l.walkers.items k ≡ Some w → IsWalker g.C.Pass.Resting.rest g.C.Queue.Climbing.climb
      g.C.Queue.Climbing.climbs g.C.Held.Standing.stand g.C.Held.Standing.stands g.C.Leave.Descending.descent g.C.Leave.Descending.descends
      (g.C.Composed.has l._lock) (g.C.Composed.level l._lock) (g.C.Composed.tag l._lock) k w;
  done : (k : ℕ) (w : _) → slice_get l.walkers.items k ≡ Some w → IsDone w;
  behind : (k : ℕ) (j : _) → slice_get (reverse l.jobs.items) k ≡ Some j → IsServed g.C.Pass.Resting.rest
      (g.C.Composed.has l._lock) (g.C.Composed.level l._lock) (g.C.Composed.tag l._lock) (length l.walkers.items + k) j;
  counted : length l.walkers.items + length l.jobs.items ≡ length l.fn.walkers.items;
  room : vec_capacity l.jobs ≡ vec_capacity l.fn.jobs;
}

abbrev pub decreases-loop-walker : goal.decreases-loop-walker
decreases-loop-walker g l = vec_len l.walkers
