use Rattle.std.proofs.Common.{◌≡◌, take}
use Rattle.std.specs.List.{All, flat_map}
use Rattle.topo_tree.specs.Objects.{IsObject}
use Rattle.calc_query.specs.Answers.{end_of, extended}
use Rattle.calc_query.proofs.answers.longer.Given as goal

abbrev pub invariant-loop-path : goal.invariant-loop-path
invariant-loop-path l =
    record {
      paths : l.out.items ≡ flat_map (extended l.tree l.set l.layer) (take l.path-index l.paths);
      ends : All (λ path. IsObject l.tree (end_of path)) l.out.items;
    }
