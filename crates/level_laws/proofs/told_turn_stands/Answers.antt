use Rattle.level_laws.proofs.Told.{stands_there}
use Rattle.level_laws.proofs.told_turn_stands.Goals as goal

pub returns-clause-stands : goal.returns-clause-stands
returns-clause-stands g c = λ level before closes. stands_there _ level _ before c.agree_on.ensures.first closes
