use Rattle.std.proofs.Common.{◌≡◌, drop, [], ◌∷◌}
use Rattle.topo_tree.specs.declared.layer.Layer.TheVariants as layers
use Rattle.topo_tree.specs.Objects.{IsLayer}
use Rattle.calc_query.specs.Selection.{selected_from}
use Rattle.calc_query.proofs.selecting.selected_by.Given as goal

abbrev pub invariant-loop-part : goal.invariant-loop-part
invariant-loop-part l =
    record {
      layer : IsLayer l.tree l.layer;
      rest : selected_from l.tree l.numbering l.layer l.chosen (drop l.part-index l.parts)
          ≡ selected_from l.tree l.numbering (layers.Depth 0) (0 ∷ []) l.parts;
    }
