use Rattle.std.proofs.Common.{◌*◌, [], ◌∷◌, ◌++◌, codes, decimal, replicate, ap, ◌∙◌}
use Rattle.synth_text.specs.declared.kind.Kind.TheVariants.{NumaNode}
use Rattle.synth_text.specs.Kinds.{short_name_of}
use Rattle.topo_tree.specs.Lines.{node_detail, line}
use Rattle.topo_tree.proofs.Shown.{joined_line}
use Rattle.topo_tree.proofs.tree.Tree.push_node.Goals as goal

pub returns : goal.returns
unfolding line
returns c =
    let out = c.args.out.now.items in
    c.in_ok-push.ensures.items
    ∙ ap (λ o. o ++ 10 ∷ [])
    (c.in_ok-push_node_detail.ensures
    ∙ ap (λ o. o ++ node_detail c.physical.result c.args.size)
    (c.in_ok-push_index.ensures
    ∙ ap (λ o. o ++ (codes " L#" ++ decimal c.args.index))
    (c.in_ok-push_short_name.ensures ∙ ap (λ o. o ++ short_name_of NumaNode) c.in_ok-push_indent.ensures)))
    ∙ joined_line out (replicate (2 * c.args.depth) 32) (short_name_of NumaNode) (codes " L#") (decimal c.args.index)
    (node_detail c.physical.result c.args.size) (10 ∷ [])
    ∙ ap (λ physical. out ++ line c.args.depth (short_name_of NumaNode) c.args.index (node_detail physical c.args.size)) c.physical.ensures
