use Rattle.topo_tree.proofs.PlaceLaws.{set_at-children}
use Rattle.topo_tree.proofs.laws.children_make_up_their_parent.Goals as goal

pub returns : goal.returns
returns c = λ described depth index number built within. set_at-children described built depth index number within
