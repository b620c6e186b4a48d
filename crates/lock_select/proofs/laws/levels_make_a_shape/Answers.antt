use Rattle.lock_select.proofs.NodeLaws.{make_a_shape}
use Rattle.lock_select.proofs.laws.levels_make_a_shape.Goals as goal

pub returns : goal.returns
returns c = make_a_shape
