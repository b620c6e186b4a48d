use Rattle.std.proofs.Common.{◌≡◌, ℕ, ◌+◌, ◌≤◌, length, reverse, Some, vec_capacity, vec_len}
use Rattle.std.specs.Prelude.{slice_get}
use Rattle.fresh_runner.specs.Crews.{AreLists}
use Rattle.fresh_runner.specs.Jobs.{IsFreshJob}
use Rattle.fresh_runner.proofs.dealing.deal.Given as goal

-- what has left the lists is in the jobs, the last one first
abbrev pub invariant-loop-pass : goal.invariant-loop-pass
invariant-loop-pass g l = record {
  lists : AreLists g.C.Pass.Resting.rest (g.C.Composed.has l._lock) (g.C.Composed.level l._lock) (g.C.Composed.tag l._lock)
      (length l.lists.passes.items) l.lists;
  behind : (k : ℕ) (j : _) → slice_get (reverse l.jobs.items) k ≡ Some j → IsFreshJob g.C.Pass.Resting.rest
      (g.C.Composed.has l._lock) (g.C.Composed.level l._lock) (g.C.Composed.tag l._lock) (length l.lists.passes.items + k) j;
  counted : length l.lists.passes.items + length l.jobs.items ≡ length l.sections;
  room : vec_capacity l.jobs ≡ vec_capacity l.fn.jobs;
  passes_room : length l.sections ≤ vec_capacity l.lists.passes;
  shares_room : length l.sections ≤ vec_capacity l.lists.shares;
  seens_room : length l.sections ≤ vec_capacity l.lists.seens;
  marks_room : length l.sections ≤ vec_capacity l.lists.marks;
}

abbrev pub decreases-loop-pass : goal.decreases-loop-pass
decreases-loop-pass g l = vec_len l.lists.passes
