use Rattle.std.proofs.Common.{sym, subst}
use Rattle.kv_history.specs.declared.item.Edit.TheVariants.{Whole}
use Rattle.kv_history.specs.Dues.{Agrees}
use Rattle.kv_history.proofs.Agreement.{agrees-edited_alike}
use Rattle.kv_history.proofs.items.Items.put.Goals as goal

pub invariant_of-self-in-Alike : goal.invariant_of-self-in-Alike
invariant_of-self-in-Alike c =
    subst (Agrees c.self.inside.dues) (sym c.in_ok-edit_alike.ensures.ok)
    (agrees-edited_alike c.args.key.now c.args.expiry (Whole c.args.flags c.args.block) c.args.unique c.self.inside.table c.self.inside.dues
    c.self.invariant)
