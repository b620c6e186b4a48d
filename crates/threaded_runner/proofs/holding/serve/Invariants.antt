use Rattle.std.proofs.Common.{◌≡◌, false}
use Rattle.threaded_runner.specs.Jobs.{IsJob}
use Rattle.threaded_runner.proofs.holding.serve.Given as goal

-- the parts are those of a job of the caller, with the same pass and share but for the turns made so far
abbrev pub invariant-loop : goal.invariant-loop
invariant-loop g l = record {
  job : IsJob g.C.Pass.Resting.rest (g.C.Composed.has l.lock) (g.C.Composed.level l.lock) (g.C.Composed.tag l.lock)
      l.fn.job.share.caller (record { pass = l.pass; share = l.share; commands = l.commands; stopped = false });
  pass : (g.C.Pass.Resting.rest l.pass).context ≡ (g.C.Pass.Resting.rest l.fn.job.pass).context;
  share : l.share ≡ record l.fn.job.share { made = l.counter };
}
