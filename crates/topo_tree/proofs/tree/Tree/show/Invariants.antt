use Rattle.std.proofs.Common.{◌≡◌, take}
use Rattle.std.specs.List.{flat_map}
use Rattle.topo_tree.specs.Lines.{lines_of}
use Rattle.topo_tree.proofs.tree.Tree.show.Given as goal

abbrev pub invariant-loop-object : goal.invariant-loop-object
invariant-loop-object l = l.out.items ≡ flat_map (λ object. lines_of l.self object.layer object.index) (take l.object-index l.object-items)
