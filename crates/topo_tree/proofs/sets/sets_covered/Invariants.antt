use Rattle.std.proofs.Common.{◌≡◌, map}
use Rattle.std.specs.List.{range_with_len}
use Rattle.topo_tree.specs.Coverage.{set_covered}
use Rattle.topo_tree.proofs.sets.sets_covered.Given as goal

abbrev pub invariant-loop-index : goal.invariant-loop-index
invariant-loop-index l = l.sets.items ≡ map (set_covered l.numbers l.count) (range_with_len 0 l.index)
