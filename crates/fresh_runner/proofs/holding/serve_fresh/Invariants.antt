use Rattle.std.proofs.Common.{◌≡◌}
use Rattle.fresh_runner.specs.Jobs.{IsFreshJob}
use Rattle.fresh_runner.proofs.holding.serve_fresh.Given as goal

-- the job is that of the caller, with the same share but for the turns made so far
abbrev pub invariant-loop : goal.invariant-loop
invariant-loop g l = record {
  job : IsFreshJob g.C.Pass.Resting.rest (g.C.Composed.has l.lock) (g.C.Composed.level l.lock) (g.C.Composed.tag l.lock)
      l.fn.job.account.share.caller l.job;
  share : l.job.account.share ≡ record l.fn.job.account.share { made = l.counter };
}
