use Rattle.std.proofs.Common.{◌-◌}
use Rattle.cpu_set.proofs.ListText.{RunSoFar}
use Rattle.cpu_set.proofs.set.CpuSet.run_from.Given as goal

abbrev pub invariant-loop-last : goal.invariant-loop-last
invariant-loop-last l = RunSoFar l.self l.first l.last

abbrev pub decreases-loop-last : goal.decreases-loop-last
decreases-loop-last l = 4096 - l.last
