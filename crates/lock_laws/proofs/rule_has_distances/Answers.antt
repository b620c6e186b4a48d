use Rattle.lock_laws.proofs.Distances.{has_distances}
use Rattle.lock_laws.proofs.rule_has_distances.Goals as goal

pub returns : goal.returns
returns g c ch n tag s r = has_distances n tag s.words r.seats s.views r.queued
