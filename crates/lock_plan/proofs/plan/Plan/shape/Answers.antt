use Rattle.std.proofs.Common.{rules, subst}
use Rattle.synth_text.specs.Sound.{IsSound}
use Rattle.keep_local.specs.declared.shape.Shape.{Shape}
use Rattle.lock_plan.specs.Shapes.{IsShapeOf}
use Rattle.lock_plan.proofs.Trees.{tree_is}
use Rattle.lock_plan.proofs.plan.Plan.shape.Goals as goal

pub returns-clause-tree : goal.returns-clause-tree
returns-clause-tree g c =
    let described = g.T.AsTree.described c.args.topology.now in
    let plan = c.args.self.now in
    let pus = c.args.pus.now in
    let shape : Shape = record { paths = c.from_vec.result; keeps = c.from_vec-2.result } in
    let sound = subst IsSound c.as_tree-tree.ensures c.depths-depths.ensures.built.sound in
    let shaped : IsShapeOf described plan pus shape = search rules in
    tree_is described pus sound c.requires.pus plan c.requires.plan shape shaped
