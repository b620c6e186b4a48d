use Rattle.std.proofs.Common.{◌≡◌}
use Rattle.threaded_runner.specs.Jobs.{IsJob}
use Rattle.cohort_runner.proofs.serving.give_some.Given as goal

-- the job is still that of its caller, with the same context
abbrev pub invariant-loop : goal.invariant-loop
invariant-loop g l = record {
  job : IsJob g.C.Pass.Resting.rest (g.C.Composed.has l.lock) (g.C.Composed.level l.lock) (g.C.Composed.tag l.lock)
      l.fn.job.share.caller l.job;
  pass : (g.C.Pass.Resting.rest l.job.pass).context ≡ (g.C.Pass.Resting.rest l.fn.job.pass).context;
}
