use Rattle.std.proofs.Common.{◌≡◌}
use Rattle.std.specs.List.{All, range_with_len, flat_map}
use Rattle.topo_tree.specs.Objects.{IsObject}
use Rattle.topo_tree.specs.Beginnings.{objects_at}
use Rattle.topo_tree.proofs.tree.Tree.tree_order.Given as goal

abbrev pub invariant-loop-position : goal.invariant-loop-position
invariant-loop-position l =
    record {
      order : l.objects.items ≡ flat_map (objects_at l.self) (range_with_len 0 l.position);
      objects : All (IsObject l.self) l.objects.items;
    }
