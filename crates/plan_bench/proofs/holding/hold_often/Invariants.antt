use Rattle.std.proofs.Common.{◌≡◌}
use Rattle.plan_bench.proofs.holding.hold_often.Given as goal

-- the pass is that of the same context, and the share has made the turns so far
abbrev pub invariant-loop : goal.invariant-loop
invariant-loop g l = record {
  pass : (g.C.Pass.Resting.rest l.pass).context ≡ (g.C.Pass.Resting.rest l.fn.job.pass).context;
  share : l.share ≡ record l.fn.job.share { made = l.counter };
}
