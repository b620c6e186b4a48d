use Rattle.std.proofs.Common.{◌≡◌, false, take}
use Rattle.std.specs.List.{list_any}
use Rattle.cpu_set.specs.Sets.{has}
use Rattle.topo_tree.proofs.sets.some_in.Given as goal

abbrev pub invariant-loop-number : goal.invariant-loop-number
invariant-loop-number l = list_any (has l.set) (take l.number-index l.numbers) ≡ false
