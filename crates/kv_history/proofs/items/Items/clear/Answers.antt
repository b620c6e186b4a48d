use Rattle.kv_history.proofs.Agreement.{agrees-empty}
use Rattle.kv_history.proofs.items.Items.clear.Goals as goal

pub invariant_of-self : goal.invariant_of-self
invariant_of-self c = agrees-empty c.clear.new.self c.clear-2.new.self c.clear.ensures c.clear-2.ensures
