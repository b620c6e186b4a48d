use Rattle.std.proofs.Common.{◌≡◌, ◌+◌, ◌≤◌, length}
use Rattle.std.specs.List.{AllByRecursion}
use Rattle.topo_tree.specs.Objects.{IsLayer}
use Rattle.calc_query.proofs.PartReadings.{pieces_left, length_left}
use Rattle.calc_text.specs.Reading.{layers_named, names_in}
use Rattle.calc_text.proofs.LayerReadings.{layers_after}
use Rattle.calc_text.proofs.reading.read_layers.Given as goal

abbrev pub invariant-loop-rest : goal.invariant-loop-rest
invariant-loop-rest l =
    record {
      read : layers_after l.layers.items (layers_named l.tree (pieces_left l.rest)) ≡ layers_named l.tree (names_in l.fn.names);
      fit : AllByRecursion (IsLayer l.tree) l.layers.items;
    }

abbrev pub decreases-loop-rest : goal.decreases-loop-rest
decreases-loop-rest l = length_left l.rest
