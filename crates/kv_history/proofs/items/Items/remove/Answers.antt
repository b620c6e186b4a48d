use Rattle.std.proofs.Common.{sym, subst}
use Rattle.std.specs.Prelude.{List, ℕ}
use Rattle.kv_history.specs.declared.expiry.Expiry.TheVariants.{Never}
use Rattle.kv_history.specs.Dues.{Agrees, Relists}
use Rattle.kv_history.proofs.Agreement.{agrees-remove}
use Rattle.kv_history.proofs.items.Items.remove.Goals as goal

pub invariant_of-self : goal.invariant_of-self
invariant_of-self c = subst (Agrees c.self.inside.dues) (sym c.in_default.ensures.stays) c.self.invariant

pub invariant_of-self-2 : goal.invariant_of-self-2
invariant_of-self-2 c =
    subst (Agrees c.strike_expiry.new.self) (sym c.take.ensures.removed)
    (agrees-remove c.args.key.now c.self.inside.table c.self.inside.dues c.strike_expiry.new.self
    (subst (λ (key : List ℕ). Relists key Never c.self.inside.dues c.strike_expiry.new.self) c.in-Some.ensures.key c.strike_expiry.ensures)
    c.self.invariant)
