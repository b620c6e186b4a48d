use Rattle.std.proofs.Common.{◌+◌, arith}
use Rattle.cpu_set.proofs.ListText.{run_begin, run_more, run_end, run_end_past, has_if, has_unless}
use Rattle.cpu_set.proofs.set.CpuSet.run_from.Goals as goal

pub loop-last-init : goal.loop-last-init
loop-last-init c = run_begin c.args.self.now c.in_ok-first.ensures.set c.in_ok-first.first c.in_ok-first.ensures.limit

pub loop-last-preserved : goal.loop-last-preserved
loop-last-preserved c =
    run_more c.args.self.now c.has.ensures.set c.in_ok-first.first c.loop-last.last c.loop-last.invariant
    (omega (arith, c.loop-last-test.true)) (has_if c.has.result c.args.self.now (c.loop-last.last + 1) c.has.ensures.found c.if-has.true)

pub returns-else-has-clause-run : goal.returns-else-has-clause-run
returns-else-has-clause-run c =
    run_end c.args.self.now c.has.ensures.set c.args.from c.in_ok-first.first c.loop-last.last c.loop-last.invariant
    (has_unless c.has.result c.args.self.now (c.loop-last.last + 1) c.has.ensures.found c.if-has.false) c.in_ok-first.ensures.found

pub returns-after-loop-last-clause-run : goal.returns-after-loop-last-clause-run
returns-after-loop-last-clause-run c =
    run_end c.args.self.now c.in_ok-first.ensures.set c.args.from c.in_ok-first.first c.loop-last.last c.loop-last.invariant
    (run_end_past c.args.self.now c.in_ok-first.ensures.set c.loop-last.last (omega (arith, c.loop-last-test.false)))
    c.in_ok-first.ensures.found
