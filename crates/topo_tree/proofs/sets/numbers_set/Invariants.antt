use Rattle.std.proofs.Common.{◌≡◌, take}
use Rattle.cpu_set.specs.Sets.{has, numbers_where}
use Rattle.topo_tree.proofs.sets.numbers_set.Given as goal

abbrev pub invariant-loop-number : goal.invariant-loop-number
invariant-loop-number l = l.set ≡ numbers_where (has (take l.number-index l.numbers))
