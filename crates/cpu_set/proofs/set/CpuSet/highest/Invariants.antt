use Rattle.cpu_set.proofs.Searches.{NoneFrom}
use Rattle.cpu_set.proofs.set.CpuSet.highest.Given as goal

abbrev pub invariant-loop-place : goal.invariant-loop-place
invariant-loop-place l = NoneFrom l.self-inside.words l.place
