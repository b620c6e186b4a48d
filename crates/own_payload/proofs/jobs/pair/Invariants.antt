use Rattle.std.proofs.Common.{◌≡◌, ℕ, ◌+◌, length, reverse, Some, vec_capacity, vec_len}
use Rattle.std.specs.Prelude.{slice_get}
use Rattle.clof_compose.specs.Courses.{course_of}
use Rattle.clof_compose.specs.Passes.{IsNumber}
use Rattle.own_payload.specs.Jobs.{IsJob}
use Rattle.clof_compose.specs.Shares.{IsShareIn}
use Rattle.own_payload.proofs.jobs.pair.Given as goal

-- the passes and the shares that have left their lists are in the jobs, the last one first
abbrev pub invariant-loop-pass : goal.invariant-loop-pass
invariant-loop-pass g l = record {
  passes : (k : ℕ) (p : _) → slice_get l.passes.items k ≡ Some p
      → IsNumber (g.C.Composed.has l._lock) (g.C.Composed.level l._lock) (g.C.Composed.tag l._lock) k (g.C.Pass.Resting.rest p).context;
  shares : (k : ℕ) (s : _) → slice_get l.shares.items k ≡ Some s → IsShareIn (course_of (g.C.Composed.tag l._lock)) k s;
  many : length l.shares.items ≡ length l.passes.items;
  behind : (k : ℕ) (j : _) → slice_get (reverse l.jobs.items) k ≡ Some j → IsJob g.C.Pass.Resting.rest
      (g.C.Composed.has l._lock) (g.C.Composed.level l._lock) (g.C.Composed.tag l._lock) (length l.passes.items + k) j;
  counted : length l.passes.items + length l.jobs.items ≡ length l.fn.passes.items;
  room : vec_capacity l.jobs ≡ vec_capacity l.fn.jobs;
  passes_kept : vec_capacity l.passes ≡ vec_capacity l.fn.passes;
  shares_kept : vec_capacity l.shares ≡ vec_capacity l.fn.shares;
}

abbrev pub decreases-loop-pass : goal.decreases-loop-pass
decreases-loop-pass g l = vec_len l.passes
