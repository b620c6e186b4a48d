use Rattle.std.proofs.Common.{sym, subst}
use Rattle.kv_history.specs.Dues.{Agrees}
use Rattle.kv_history.specs.Views.{plain_item}
use Rattle.kv_history.proofs.Agreement.{agrees-touched}
use Rattle.kv_history.proofs.items.Items.touch.Goals as goal

pub invariant_of-self-2 : goal.invariant_of-self-2
invariant_of-self-2 c =
    subst (Agrees c.relist.new.self) (sym c.set_expiry.ensures)
    (agrees-touched c.args.key.now c.args.expiry (plain_item c.in-Some.item.now) c.self.inside.table c.self.inside.dues c.relist.new.self
    (sym c.in-Some.ensures) c.in_ok-relist.ensures.ok c.self.invariant)
