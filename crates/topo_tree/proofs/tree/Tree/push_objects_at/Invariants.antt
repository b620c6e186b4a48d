use Rattle.std.proofs.Common.{◌≡◌, ◌++◌}
use Rattle.std.specs.List.{All, range_with_len, flat_map}
use Rattle.topo_tree.specs.Objects.{IsObject}
use Rattle.topo_tree.specs.Beginnings.{objects_from}
use Rattle.topo_tree.proofs.tree.Tree.push_objects_at.Given as goal

abbrev pub invariant-loop-depth : goal.invariant-loop-depth
invariant-loop-depth l =
    record {
      order : l.objects.items ≡ l.fn.objects.items ++ flat_map (objects_from l.self l.position) (range_with_len 0 l.depth);
      objects : All (IsObject l.self) l.objects.items;
    }
