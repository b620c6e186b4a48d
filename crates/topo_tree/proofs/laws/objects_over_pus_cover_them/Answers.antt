use Rattle.topo_tree.proofs.OverLaws.{covered}
use Rattle.topo_tree.proofs.laws.objects_over_pus_cover_them.Goals as goal

pub returns : goal.returns
returns c = covered
