use Rattle.cpu_set.proofs.HexSteps.{HexSoFar}
use Rattle.cpu_set.proofs.read_hex.read_words.Given as goal

abbrev pub invariant-loop-rest : goal.invariant-loop-rest
invariant-loop-rest l = HexSoFar l.text l.rest l.at l.left l.set

abbrev pub decreases-loop-rest : goal.decreases-loop-rest
decreases-loop-rest l = l.left
