use Rattle.std.proofs.Common.{◌≡◌, ◌<◌, ◌+◌, ◌-◌, ◌*◌, ap, subst, arith}
use Rattle.std.proofs.lemmas.Nat.{div_below}
use Rattle.topo_tree.specs.declared.layer.Layer.TheVariants as layers
use Rattle.topo_tree.specs.Objects.{count_at, count_of, IsLayer}
use Rattle.topo_tree.proofs.CountLaws.{arity_some, count_more}
use Rattle.topo_tree.proofs.Lookups.{place_of_object}
use Rattle.topo_tree.proofs.tree.Tree.parent.Goals as goal

pub nonzero_div-result : goal.nonzero_div-result
nonzero_div-result c =
    let now = c.args.self.now in
    let within = subst (IsLayer now) c.in-Depth.is c.requires.layer in
    omega (arith, c.arity.ensures.arity, arity_some now (c.in-Depth.depth - 1) c.arity.ensures.built.sound (omega (arith, within)))

pub returns-else-depth-eq0-clause-fit : goal.returns-else-depth-eq0-clause-fit
returns-else-depth-eq0-clause-fit c =
    let now = c.args.self.now in
    let depth = c.in-Depth.depth in
    let above = depth - 1 in
    let index = c.args.object.index in
    let within = subst (IsLayer now) c.in-Depth.is c.requires.layer in
    let below = subst (λ layer. index < count_of now layer) c.in-Depth.is c.requires.index in
    let arity = c.arity.ensures.arity in
    let some = arity_some now above c.arity.ensures.built.sound (omega (arith, within)) in
    let next : above + 1 ≡ depth = omega arith in
    let more = count_more above now.levels (omega (arith, within)) in
    record {
      layer = omega (arith, within);
      index = div_below index c.arity.result (count_at now above) (omega (arith, arity, some))
          (omega (arith, below, more, ap (count_at now) next, ap (λ n. count_at now above * n) arity));
    }

pub returns-in-Memory-clause-fit : goal.returns-in-Memory-clause-fit
returns-in-Memory-clause-fit c =
    let now = c.args.self.now in
    let index = c.args.object.index in
    let below = subst (λ layer. index < count_of now layer) c.in-Memory.is c.requires.index in
    let place = place_of_object now layers.Memory index c.depth_of.ensures.built.sound tt below in
    let depth = c.depth_of.ensures.depth in
    record {
      layer = omega (arith, depth, place.0);
      index = omega (arith, ap (count_at now) depth, place.1);
    }
