use Rattle.std.proofs.Common.{◌≡◌, take}
use Rattle.std.specs.List.{All}
use Rattle.topo_tree.specs.Objects.{IsObject}
use Rattle.calc_query.specs.Answers.{end_of, chains}
use Rattle.calc_query.proofs.answers.hierarchical.Given as goal

abbrev pub invariant-loop-layer : goal.invariant-loop-layer
invariant-loop-layer g l =
    record {
      paths : l.paths.items ≡ chains l.tree l.set (take l.layer-index l.layers);
      ends : All (λ path. IsObject l.tree (end_of path)) l.paths.items;
    }
