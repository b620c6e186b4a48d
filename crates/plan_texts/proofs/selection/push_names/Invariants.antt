use Rattle.std.proofs.Common.{◌≡◌, ◌++◌, ◌∷◌, [], take}
use Rattle.std.specs.List.{join_by}
use Rattle.topo_tree.specs.declared.layer.Layer.TheVariants as layers
use Rattle.calc_text.specs.Texts.{layer_name}
use Rattle.plan_texts.proofs.selection.push_names.Given as goal

-- the names so far
abbrev pub invariant-loop-place : goal.invariant-loop-place
invariant-loop-place l =
    l.out.items ≡ l.fn.out.items ++ join_by (λ depth. layer_name l.tree (layers.Depth depth)) (44 ∷ []) (take l.place l.depths)
