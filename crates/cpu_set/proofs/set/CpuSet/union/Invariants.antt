use Rattle.std.proofs.Common.{bit_or}
use Rattle.cpu_set.proofs.SetSteps.{CombinedBelow}
use Rattle.cpu_set.proofs.set.CpuSet.union.Given as goal

abbrev pub invariant-words : goal.invariant-words
invariant-words l = CombinedBelow bit_or l.initial.words l.other-inside.words l.words l.place
