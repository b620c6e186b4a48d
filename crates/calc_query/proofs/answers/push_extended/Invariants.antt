use Rattle.std.proofs.Common.{◌≡◌, ◌++◌}
use Rattle.std.specs.List.{All}
use Rattle.topo_tree.specs.Objects.{IsObject}
use Rattle.calc_query.specs.Answers.{end_of}
use Rattle.calc_query.proofs.ChainLaws.{steps_through}
use Rattle.calc_query.proofs.answers.push_extended.Given as goal

abbrev pub invariant-loop-position : goal.invariant-loop-position
invariant-loop-position l =
    record {
      paths : l.out.items ≡ l.fn.out.items ++ steps_through l.tree l.set l.layer l.path l.row.first l.row.count l.position;
      ends : All (λ path. IsObject l.tree (end_of path)) l.out.items;
    }
