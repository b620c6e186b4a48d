use Rattle.lock_laws.proofs.Links.{has_links}
use Rattle.lock_laws.proofs.rule_has_links.Goals as goal

pub returns : goal.returns
returns g c ch n tag s r = has_links r.queued
