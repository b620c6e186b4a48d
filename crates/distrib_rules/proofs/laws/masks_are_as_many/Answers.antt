use Rattle.distrib_rules.proofs.AsMany.{as_many}
use Rattle.distrib_rules.proofs.laws.masks_are_as_many.Goals as goal

pub returns : goal.returns
returns c = λ described way n from built some within. as_many described built way n from
