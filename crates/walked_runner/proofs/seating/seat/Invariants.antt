use Rattle.std.proofs.Common.{◌≡◌, ℕ, ◌+◌, length, reverse, Some, vec_capacity, vec_len}
use Rattle.std.specs.Prelude.{slice_get}
use Rattle.threaded_runner.specs.Jobs.{IsJob}
use Rattle.walked_runner.specs.Walkers.{IsWalker}
use Rattle.walked_runner.proofs.seating.seat.Given as goal

-- the jobs that have left their list are the callers', the last one first
abbrev pub invariant-loop-job : goal.invariant-loop-job
invariant-loop-job g l = record {
  jobs : (k : ℕ) (j : _) → slice_get l.jobs.items k ≡ Some j → IsJob g.C.Pass.Resting.rest
      (g.C.Composed.has l._lock) (g.C.Composed.level l._lock) (g.C.Composed.tag l._lock) k j;
  behind : (k : ℕ) (w : _) → slice_get (reverse l.walkers.items) k ≡ Some w → IsWalker g.C.Pass.Resting.rest g.C.Queue.Climbing.climb
      g.C.Queue.Climbing.climbs g.C.Held.Standing.stand g.C.Held.Standing.stands g.C.Leave.Descending.descent g.C.Leave.Descending.descends
      (g.C.Composed.has l._lock) (g.C.Composed.level l._lock) (g.C.Composed.tag l._lock) (length l.jobs.items + k) w;
  counted : length l.jobs.items + length l.walkers.items ≡ length l.fn.jobs.items;
  room : vec_capacity l.walkers ≡ vec_capacity l.fn.walkers;
  emptied : vec_capacity l.jobs ≡ vec_capacity l.fn.jobs;
}

abbrev pub decreases-loop-job : goal.decreases-loop-job
decreases-loop-job g l = vec_len l.jobs
