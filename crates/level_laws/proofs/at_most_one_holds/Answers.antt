use Rattle.level_laws.proofs.Holders.{one_holds}
use Rattle.level_laws.proofs.at_most_one_holds.Goals as goal

pub returns : goal.returns
returns g c = λ holds. one_holds g.V.Cargo.fit g.V.Cargo.tag g.V.Cargo.parked holds
