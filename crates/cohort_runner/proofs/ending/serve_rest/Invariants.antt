use Rattle.std.proofs.Common.{◌≡◌, ℕ, ◌++◌, length, Some, vec_capacity}
use Rattle.std.specs.Prelude.{slice_get}
use Rattle.threaded_runner.specs.Jobs.{IsServed}
use Rattle.cohort_runner.proofs.ending.serve_rest.Given as goal

-- the callers of the slots so far were served
abbrev pub invariant-loop-slot : goal.invariant-loop-slot
invariant-loop-slot g l = record {
  all : l.fn.slots.items ≡ l.yielded ++ l.slot-iterator.rest.items;
  many : length l.jobs.items ≡ length l.yielded;
  each : (k : ℕ) (j : _) → slice_get l.jobs.items k ≡ Some j → IsServed g.C.Pass.Resting.rest (g.C.Composed.has l.lock)
      (g.C.Composed.level l.lock) (g.C.Composed.tag l.lock) k j;
  room : vec_capacity l.jobs ≡ vec_capacity l.fn.jobs;
}
