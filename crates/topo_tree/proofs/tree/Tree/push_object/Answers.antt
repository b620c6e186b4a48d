use Rattle.std.proofs.Common.{◌*◌, [], ◌∷◌, ◌++◌, length, slice_index, codes, decimal, replicate, ap, ◌∙◌, arith}
use Rattle.topo_tree.specs.declared.layer.Layer.TheVariants as layers
use Rattle.topo_tree.specs.Objects.{kind_at}
use Rattle.topo_tree.specs.Coverage.{physical_of}
use Rattle.topo_tree.specs.Lines.{short_name, detail, group_number, line, object_line}
use Rattle.topo_tree.proofs.Shown.{joined_line, length-group_numbers, group_numbers-at}
use Rattle.topo_tree.proofs.tree.Tree.push_object.Goals as goal

pub bounds-groups-depth : goal.bounds-groups-depth
bounds-groups-depth c = omega (arith, c.requires.depth, ap length c.requires.groups, length-group_numbers c.args.self.now)

pub returns : goal.returns
unfolding object_line line
returns c =
    let now = c.args.self.now in
    let out = c.args.out.now.items in
    let depth = c.args.depth in
    let index = c.args.index in
    let group = slice_index c.args.groups.now depth in
    c.in_ok-push.ensures.items
    ∙ ap (λ o. o ++ 10 ∷ [])
    (c.in_ok-push_detail.ensures
    ∙ ap (λ o. o ++ detail c.kind-kind.result c.physical.result c.size.result)
    (c.in_ok-push_index.ensures
    ∙ ap (λ o. o ++ (codes " L#" ++ decimal index))
    (c.in_ok-push_short_name.ensures ∙ ap (λ o. o ++ short_name c.kind-kind.result group) c.in_ok-push_indent.ensures)))
    ∙ joined_line out (replicate (2 * depth) 32) (short_name c.kind-kind.result group) (codes " L#") (decimal index)
    (detail c.kind-kind.result c.physical.result c.size.result) (10 ∷ [])
    ∙ ap (λ kind. out ++ line depth (short_name kind group) index (detail kind c.physical.result c.size.result)) c.kind-kind.ensures
    ∙ ap (λ number. out ++ line depth (short_name (kind_at now depth) number) index
    (detail (kind_at now depth) c.physical.result c.size.result))
    (group_numbers-at now c.args.groups.now depth c.requires.groups c.requires.depth)
    ∙ ap (λ physical. out ++ line depth (short_name (kind_at now depth) (group_number now depth)) index
    (detail (kind_at now depth) physical c.size.result)) c.physical.ensures
    ∙ ap (λ size. out ++ line depth (short_name (kind_at now depth) (group_number now depth)) index
    (detail (kind_at now depth) (physical_of now (layers.Depth depth) index) size)) c.size.ensures
