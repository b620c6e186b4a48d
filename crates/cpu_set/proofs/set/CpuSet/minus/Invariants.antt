use Rattle.cpu_set.proofs.SetSteps.{CombinedBelow, and_not}
use Rattle.cpu_set.proofs.set.CpuSet.minus.Given as goal

abbrev pub invariant-words : goal.invariant-words
invariant-words l = CombinedBelow and_not l.initial.words l.other-inside.words l.words l.place
