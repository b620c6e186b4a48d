use Rattle.std.proofs.Common.{◌≡◌, true, take}
use Rattle.std.specs.List.{list_all}
use Rattle.cpu_set.specs.Sets.{has}
use Rattle.topo_tree.proofs.sets.all_in.Given as goal

abbrev pub invariant-loop-number : goal.invariant-loop-number
invariant-loop-number l = list_all (has l.set) (take l.number-index l.numbers) ≡ true
