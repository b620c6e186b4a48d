use Rattle.cpu_set.proofs.SetSteps.{RangeAdded}
use Rattle.cpu_set.proofs.set.CpuSet.add_range.Given as goal

abbrev pub invariant-words : goal.invariant-words
invariant-words l = RangeAdded l.fn.self l.self l.low l.high l.place
