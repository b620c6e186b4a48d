use Rattle.std.proofs.Common.{◌+◌, ◌<◌, length, take, get_or, ap, subst, ◌∙◌, arith}
use Rattle.synth_text.specs.Rules.{arities, product}
use Rattle.synth_text.specs.Sound.{IsSound}
use Rattle.topo_tree.specs.Building.{pu_numbers}
use Rattle.topo_tree.specs.Coverage.{set_covered, layer_depth}
use Rattle.topo_tree.proofs.Lookups.{tabled, table_length, table_at, depth_length, sets_covered-at, place_of_object}
use Rattle.topo_tree.proofs.topology.Topology.set.Goals as goal

pub index-requires : goal.index-requires
index-requires c =
    let now = c.args.self.now in
    let here = tabled c.self.inside now c.self.invariant c.self.view_is in
    let sound = subst IsSound c.self.view_is c.depth_of-depth.ensures.built.sound in
    let place = place_of_object now c.args.object.layer c.args.object.index sound c.requires.layer c.requires.index in
    let depth_is = c.depth_of-depth.ensures.depth ∙ ap (λ d. layer_depth d c.args.object.layer) c.self.view_is in
    omega (
      arith,
      depth_is,
      place.0,
      table_length (λ d. d.items) c.self.inside.sets.items
          (pu_numbers now) now.levels here,
    )

pub index-requires-2 : goal.index-requires-2
index-requires-2 c =
    let now = c.args.self.now in
    let depth = c.depth_of-depth.result in
    let here = tabled c.self.inside now c.self.invariant c.self.view_is in
    let sound = subst IsSound c.self.view_is c.depth_of-depth.ensures.built.sound in
    let place = place_of_object now c.args.object.layer c.args.object.index sound c.requires.layer c.requires.index in
    let depth_is = c.depth_of-depth.ensures.depth ∙ ap (λ d. layer_depth d c.args.object.layer) c.self.view_is in
    let within : depth < length now.levels + 1 = omega (arith, depth_is, place.0) in
    let long = depth_length (λ d. d.items) c.self.inside.sets.items now depth c.index.result.now here within c.index.ensures in
    let counted = ap (λ d. product (take d (arities now.levels))) depth_is in
    omega (arith, long, counted, place.1)

pub returns : goal.returns
returns c =
    let now = c.args.self.now in
    let depth = c.depth_of-depth.result in
    let index = c.args.object.index in
    let here = tabled c.self.inside now c.self.invariant c.self.view_is in
    let sound = subst IsSound c.self.view_is c.depth_of-depth.ensures.built.sound in
    let place = place_of_object now c.args.object.layer index sound c.requires.layer c.requires.index in
    let depth_is = c.depth_of-depth.ensures.depth ∙ ap (λ d. layer_depth d c.args.object.layer) c.self.view_is in
    let within : depth < length now.levels + 1 = omega (arith, depth_is, place.0) in
    let found = table_at (λ d. d.items) c.self.inside.sets.items
    (pu_numbers now) now.levels depth c.index.result.now here within c.index.ensures in
    let below : index < product (take depth (arities now.levels)) =
    omega (arith, ap (λ d. product (take d (arities now.levels))) depth_is, place.1) in
    c.index-2.ensures ∙ ap (λ sets. get_or sets index c.index-2.result.now) found
    ∙ sets_covered-at (pu_numbers now) (product (take depth (arities now.levels))) index c.index-2.result.now below
    ∙ ap (λ d. set_covered (pu_numbers now) (product (take d (arities now.levels))) index) depth_is
