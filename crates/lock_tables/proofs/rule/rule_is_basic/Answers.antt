use Rattle.lock_tables.proofs.Implied.{is_basic}
use Rattle.lock_tables.proofs.rule.rule_is_basic.Goals as goal

pub returns : goal.returns
returns g c ch n tag s r =
    is_basic g.V.Cargo.fit g.V.Cargo.tag g.V.Cargo.parked g.D.Disciplined.discipline c.is_disciplined.ensures ch n tag s r
