use Rattle.kv_history.specs.Dues.{Agrees}
use Rattle.kv_history.proofs.Agreement.{agrees-edited, on_either}
use Rattle.kv_history.proofs.items.Items.edit.Goals as goal

pub invariant_of-self : goal.invariant_of-self
invariant_of-self c =
    on_either c.edit.result (Agrees c.self.inside.dues) c.edit.new.self _ c.self.inside.table c.edit.ensures.ok c.edit.ensures.err
    (agrees-edited c.args.key.now c.args.edit c.args.unique c.self.inside.table c.self.inside.dues c.self.invariant) c.self.invariant
