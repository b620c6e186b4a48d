use Rattle.std.proofs.Common.{length}
use Rattle.cpu_set.proofs.PartLemmas.{parts_left}
use Rattle.cpu_set.proofs.ListSteps.{ListSoFar}
use Rattle.cpu_set.proofs.set.CpuSet.read_list.Given as goal

abbrev pub invariant-loop-rest : goal.invariant-loop-rest
invariant-loop-rest l = ListSoFar l.text l.rest l.at l.set

abbrev pub decreases-loop-rest : goal.decreases-loop-rest
decreases-loop-rest l = length (parts_left l.rest)
