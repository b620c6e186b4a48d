use Rattle.cpu_set.proofs.Searches.{NoneUpTo}
use Rattle.cpu_set.proofs.set.CpuSet.next.Given as goal

abbrev pub invariant-words : goal.invariant-words
invariant-words l = NoneUpTo l.words l.from l.place
