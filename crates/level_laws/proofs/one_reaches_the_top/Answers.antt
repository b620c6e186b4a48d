use Rattle.level_laws.proofs.Reach.{one_reaches_top}
use Rattle.level_laws.proofs.one_reaches_the_top.Goals as goal

pub returns : goal.returns
returns g c = λ holds. one_reaches_top g.V.Cargo.fit g.V.Cargo.tag g.V.Cargo.parked holds
