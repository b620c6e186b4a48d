use Rattle.std.proofs.Common.{◌≡◌, ℕ, ◌+◌, length, reverse, Some, vec_capacity, vec_len}
use Rattle.std.specs.Prelude.{slice_get}
use Rattle.cohort_runner.specs.Callers.{IsCaller}
use Rattle.cohort_runner.specs.Rolls.{contexts_of, roll_tag}
use Rattle.cohort_runner.proofs.Seated.{IsSeated}
use Rattle.cohort_runner.proofs.opening.seat_all.Given as goal

-- the jobs that have left their list are in slots, the last one first
abbrev pub invariant-loop-job : goal.invariant-loop-job
invariant-loop-job g l = record {
  jobs : (k : ℕ) (j : _) → slice_get l.jobs.items k ≡ Some j
      → IsCaller g.Q.Resting.rest (contexts_of g.Q.Resting.rest l.roll.told.value.items) j × (j.share.caller ≡ k);
  behind : (k : ℕ) (s : _) → slice_get (reverse l.slots.items) k ≡ Some s
      → IsSeated (roll_tag (contexts_of g.Q.Resting.rest l.roll.told.value.items)) (length l.jobs.items + k) s;
  counted : length l.jobs.items + length l.slots.items ≡ length l.fn.jobs.items;
  room : vec_capacity l.slots ≡ vec_capacity l.fn.slots;
  jobs_room : vec_capacity l.jobs ≡ vec_capacity l.fn.jobs;
}

abbrev pub decreases-loop-job : goal.decreases-loop-job
decreases-loop-job g l = vec_len l.jobs
