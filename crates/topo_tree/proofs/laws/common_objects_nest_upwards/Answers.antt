use Rattle.topo_tree.proofs.OverLaws.{nest_upwards}
use Rattle.topo_tree.proofs.laws.common_objects_nest_upwards.Goals as goal

pub returns : goal.returns
returns c = nest_upwards
