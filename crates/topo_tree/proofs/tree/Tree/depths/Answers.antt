use Rattle.std.proofs.Common.{length, ap, arith}
use Rattle.topo_tree.proofs.Lookups.{numbered, length-depth_counts}
use Rattle.topo_tree.proofs.tree.Tree.depths.Goals as goal

pub overflow_cast-result : goal.overflow_cast-result
overflow_cast-result c =
    let here = numbered c.self.inside c.args.self.now c.self.invariant c.self.view_is in
    omega (arith, ap length here.counts, length-depth_counts c.args.self.now.levels, here.built.sound.few)

pub returns-clause-count : goal.returns-clause-count
returns-clause-count c =
    let here = numbered c.self.inside c.args.self.now c.self.invariant c.self.view_is in
    omega (arith, ap length here.counts, length-depth_counts c.args.self.now.levels)
