use Rattle.kv_history.proofs.Agreement.{agrees-empty}
use Rattle.kv_history.proofs.items.Items.new.Goals as goal

pub invariant_of-result : goal.invariant_of-result
invariant_of-result c = agrees-empty c.new-table.result c.new-dues.result c.new-table.ensures c.new-dues.ensures
