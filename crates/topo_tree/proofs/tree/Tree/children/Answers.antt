use Rattle.std.proofs.Common.{◌<◌, ◌*◌, ap, subst, arith}
use Rattle.topo_tree.specs.Objects.{count_of}
use Rattle.topo_tree.proofs.CountLaws.{children_few}
use Rattle.topo_tree.proofs.tree.Tree.children.Goals as goal

pub overflow_mul-result : goal.overflow_mul-result
overflow_mul-result c =
    let index = c.args.object.index in
    let below = subst (λ layer. index < count_of c.args.self.now layer) c.in-Depth.is c.requires.index in
    omega (
      arith,
      ap (λ arity. index * arity) c.arity-arity.ensures.arity,
      children_few c.args.self.now c.in-Depth.depth index
          c.arity-arity.ensures.built.sound below,
    )
