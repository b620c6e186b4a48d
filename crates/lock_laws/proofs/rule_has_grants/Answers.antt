use Rattle.lock_laws.proofs.Grants.{leave_by_grants}
use Rattle.lock_laws.proofs.rule_has_grants.Goals as goal

pub returns : goal.returns
returns g c ch n tag s r = leave_by_grants n tag s.words r.seats s.views r.queued
