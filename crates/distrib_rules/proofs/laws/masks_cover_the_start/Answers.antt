use Rattle.distrib_rules.proofs.Covering.{covers}
use Rattle.distrib_rules.proofs.laws.masks_cover_the_start.Goals as goal

pub returns : goal.returns
returns c = λ described way n from number built some within low. covers number low described built way n from some
