use Rattle.std.proofs.Common.{[], ◌∷◌, ap, ◌∙◌, arith}
use Rattle.cpu_set.specs.Sets.{union}
use Rattle.topo_tree.specs.declared.layer.Layer.TheVariants as layers
use Rattle.calc_query.specs.Selection.{selected_from}
use Rattle.calc_query.proofs.SelectionLaws.{machine_alone}
use Rattle.calc_query.proofs.selecting.selected_by.Goals as goal

pub loop-part-init : goal.loop-part-init
loop-part-init c =
    record {
      layer = omega arith;
      rest = ap (λ chosen. selected_from c.args.tree.now c.args.numbering (layers.Depth 0) chosen c.args.parts.now)
          (c.with.ensures ∙ ap (λ set. union set (0 ∷ [])) c.empty-chosen.ensures ∙ machine_alone);
    }
