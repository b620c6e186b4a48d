use Rattle.std.proofs.Common.{sym, subst}
use Rattle.kv_history.specs.Dues.{Agrees}
use Rattle.kv_history.specs.Views.{plain_item}
use Rattle.kv_history.proofs.Agreement.{agrees-insert}
use Rattle.kv_history.proofs.items.Items.put_over.Goals as goal

pub invariant_of-self-2 : goal.invariant_of-self-2
invariant_of-self-2 c =
    subst (Agrees c.relist.new.self) (sym c.replace.ensures)
    (agrees-insert c.args.key.now (plain_item c.args.item) c.self.inside.table c.self.inside.dues c.relist.new.self
    c.in_ok-relist.ensures.ok c.self.invariant)
