use Rattle.cpu_set.proofs.Searches.{ApartUpTo}
use Rattle.cpu_set.proofs.set.CpuSet.meets.Given as goal

abbrev pub invariant-words : goal.invariant-words
invariant-words l = ApartUpTo l.self-inside.words l.other-inside.words l.place
