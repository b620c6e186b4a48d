use Rattle.std.proofs.Common.{◌≡◌}
use Rattle.cpu_set.proofs.Weights.{count_below}
use Rattle.cpu_set.proofs.set.CpuSet.weight.Given as goal

abbrev pub invariant-loop-word : goal.invariant-loop-word
invariant-loop-word l = l.count ≡ count_below l.word-items l.word-index
