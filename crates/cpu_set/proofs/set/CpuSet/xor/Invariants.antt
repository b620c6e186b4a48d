use Rattle.std.specs.Prelude.{bit_xor}
use Rattle.cpu_set.proofs.SetSteps.{CombinedBelow}
use Rattle.cpu_set.proofs.set.CpuSet.xor.Given as goal

abbrev pub invariant-words : goal.invariant-words
invariant-words l = CombinedBelow bit_xor l.initial.words l.other-inside.words l.words l.place
