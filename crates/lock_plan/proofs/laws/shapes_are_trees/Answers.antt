use Rattle.lock_plan.proofs.Trees.{trees}
use Rattle.lock_plan.proofs.laws.shapes_are_trees.Goals as goal

pub returns : goal.returns
returns c = trees
