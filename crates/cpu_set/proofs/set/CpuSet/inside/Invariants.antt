use Rattle.cpu_set.proofs.Searches.{InsideUpTo}
use Rattle.cpu_set.proofs.set.CpuSet.inside.Given as goal

abbrev pub invariant-words : goal.invariant-words
invariant-words l = InsideUpTo l.self-inside.words l.other-inside.words l.place
