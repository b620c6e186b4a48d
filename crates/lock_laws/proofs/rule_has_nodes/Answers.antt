use Rattle.lock_laws.proofs.Nodes.{are_nodes}
use Rattle.lock_laws.proofs.rule_has_nodes.Goals as goal

pub returns : goal.returns
returns g c ch n tag s r = are_nodes n tag s.words r.seats s.views r.queued
