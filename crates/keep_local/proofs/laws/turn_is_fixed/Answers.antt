use Rattle.keep_local.proofs.Lawful.{turn_is_fixed_lem}
use Rattle.keep_local.proofs.laws.turn_is_fixed.Goals as goal

pub returns : goal.returns
returns c = turn_is_fixed_lem
