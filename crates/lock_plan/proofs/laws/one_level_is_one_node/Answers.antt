use Rattle.lock_plan.proofs.Trees.{one_level}
use Rattle.lock_plan.proofs.laws.one_level_is_one_node.Goals as goal

pub returns : goal.returns
returns c = one_level
