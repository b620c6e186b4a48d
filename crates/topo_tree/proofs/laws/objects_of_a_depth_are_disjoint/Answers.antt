use Rattle.topo_tree.proofs.PlaceLaws.{set_at-apart}
use Rattle.topo_tree.proofs.laws.objects_of_a_depth_are_disjoint.Goals as goal

pub returns : goal.returns
returns c = λ described depth index other built differ. set_at-apart described built depth index other differ
