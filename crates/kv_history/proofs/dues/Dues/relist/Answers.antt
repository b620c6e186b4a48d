use Rattle.std.proofs.Common.{◌≡◌, ◌∙◌, List, ℕ, false, refl, sym, ap, subst}
use Rattle.kv_history.specs.Dues.{Lists, ListsAt, ListsToo}
use Rattle.kv_history.specs.Expiry.{same_expiry}
use Rattle.kv_history.specs.declared.expiry.Expiry.TheVariants.{At}
use Rattle.kv_history.proofs.Keyed.{on_ok}
use Rattle.kv_history.proofs.Listed.{relists-alike, relists-more, relists-moved}
use Rattle.kv_history.proofs.dues.Dues.relist.Goals as goal

pub returns-in-Never-clause-ok : goal.returns-in-Never-clause-ok
returns-in-Never-clause-ok c =
    on_ok c.list_expiry.result _ _ c.list_expiry.ensures.ok
    (relists-more c.args.key.now c.args.new c.args.self.now c.list_expiry.new.self
    (subst (ListsAt c.args.self.now c.args.key.now) c.in-Never.is c.requires))

pub returns-in-At-clause-ok : goal.returns-in-At-clause-ok
returns-in-At-clause-ok c =
    relists-alike c.args.key.now c.args.old c.args.new c.args.self.now c.args.self.now c.requires (sym c.if-is_same.ensures)
    (λ time other. refl)

pub returns-in_ok-list_expiry-in-At-2-clause-ok : goal.returns-in_ok-list_expiry-in-At-2-clause-ok
returns-in_ok-list_expiry-in-At-2-clause-ok c =
    let time = c.in-At-2.time in
    let mid = c.list_expiry-in-At-2.new.self in
    let key_is = c.in_ok-key-in-At-2.ensures.items_if_clones_equal (λ x y same. same) in
    let differs : same_expiry (At time) c.args.new ≡ false =
    ap (λ expiry. same_expiry expiry c.args.new) (sym c.in-At-2.is) ∙ sym c.if-is_same.ensures in
    relists-moved c.args.key.now time c.args.new c.args.self.now mid c.strike.new.self
    (subst (ListsAt c.args.self.now c.args.key.now) c.in-At-2.is c.requires) differs
    (subst (λ (key : List ℕ). ListsToo key c.args.new c.args.self.now mid) (c.deref.ensures.value ∙ key_is)
    c.in_ok-list_expiry-in-At-2.ensures.ok)
    (subst (λ (key : List ℕ). Lists key time false mid c.strike.new.self) key_is c.strike.ensures)
