use Rattle.lock_rules.proofs.Shared.{pass_shared}
use Rattle.lock_rules.proofs.laws.passes_are_shared.Goals as goal

pub returns : goal.returns
returns c = pass_shared
