use Rattle.std.proofs.Common.{◌≡◌, ℕ, ◌+◌, length, reverse, Some, vec_capacity, vec_len}
use Rattle.std.specs.Prelude.{slice_get}
use Rattle.clof_compose.specs.Courses.{course_of}
use Rattle.clof_compose.specs.Passes.{IsNumber}
use Rattle.clof_compose.specs.Shares.{IsShareIn}
use Rattle.level_harness.specs.Walkers.{IsWalker}
use Rattle.level_harness.proofs.walks.seat.Given as goal

-- the passes and the shares that have left their lists are the callers', the last one first
abbrev pub invariant-loop-pass : goal.invariant-loop-pass
invariant-loop-pass g l = record {
  passes : (k : ℕ) (p : _) → slice_get l.passes.items k ≡ Some p
      → IsNumber (g.C.Composed.has l._lock) (g.C.Composed.level l._lock) (g.C.Composed.tag l._lock) k (g.C.Pass.Resting.rest p).context;
  shares : (k : ℕ) (s : _) → slice_get l.shares.items k ≡ Some s → IsShareIn (course_of (g.C.Composed.tag l._lock)) k s;
  many : length l.shares.items ≡ length l.passes.items;
  behind : (k : ℕ) (w : _) → slice_get (reverse l.walkers.items) k ≡ Some w → IsWalker g.C.Pass.Resting.rest
      g.C.Queue.Climbing.climb g.C.Queue.Climbing.climbs g.C.Held.Standing.stand g.C.Held.Standing.stands
      g.C.Leave.Descending.descent g.C.Leave.Descending.descends
      (g.C.Composed.has l._lock) (g.C.Composed.level l._lock) (g.C.Composed.tag l._lock) (length l.passes.items + k) w;
  counted : length l.passes.items + length l.walkers.items ≡ length l.fn.passes.items;
  room : vec_capacity l.walkers ≡ vec_capacity l.fn.walkers;
  emptied : vec_capacity l.passes ≡ vec_capacity l.fn.passes;
}

abbrev pub decreases-loop-pass : goal.decreases-loop-pass
decreases-loop-pass g l = vec_len l.passes
