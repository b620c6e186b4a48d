use Rattle.kv_history.specs.Dues.{Agrees}
use Rattle.kv_history.proofs.Agreement.{agrees-counted, on_either}
use Rattle.kv_history.proofs.items.Items.count.Goals as goal

pub invariant_of-self : goal.invariant_of-self
invariant_of-self c =
    on_either c.count.result (Agrees c.self.inside.dues) c.count.new.self _ c.self.inside.table c.count.ensures.ok c.count.ensures.err
    (agrees-counted c.args.key.now c.args.up c.args.delta c.args.unique c.self.inside.table c.self.inside.dues c.self.invariant)
    c.self.invariant
