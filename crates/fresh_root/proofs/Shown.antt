-- How a token is shown the history: the views of its seat and of the home seat, step by step.
use Rattle.std.proofs.Common.{◌≡◌, false, [], ◌∷◌, ap, sym, ◌∙◌, subst}
use Rattle.atomic_table.specs.declared.badge.Badge.{Badge}
use Rattle.fresh_root.specs.Rule.{IsHome}
use Rattle.fresh_root.specs.Steps.{Seated}
use Rattle.fresh_root.specs.Views.{copy_of, joined, joined_home}
use Rattle.fresh_root.specs.Seens.{first_or}
use Rattle.fresh_root.specs.declared.view.View.{View}
use Rattle.fresh_root.proofs.Kept.{joined_at_home}

-- the view of a seat that was a badge
pub view_is : (a b : Badge View) (v : View) → a ≡ b → a.views ≡ v ∷ [] → v ≡ first_or b.views
view_is a b v same was = ap first_or (sym was ∙ ap (λ (x : Badge View). x.views) same)

-- a copy of a view
pub copy_view : (v : View) (copy : Seated) → copy ≡ (copy_of v, [])
    → (copy.0.home ≡ false) × (copy.0.spent ≡ v.spent) × (copy.0.list ≡ v.list)
copy_view v copy e = (ap (λ (m : Seated). m.0.home) e, ap (λ (m : Seated). m.0.spent) e, ap (λ (m : Seated). m.0.list) e)

-- the home seat with the list of another
pub home_shown : (home after : Seated) (w : View) → IsHome home.0 → after ≡ (joined home.0 w, home.1)
    → after ≡ (joined_home home.0 w, home.1)
home_shown home after w is e = e ∙ ap (λ (v : View). (v, home.1)) (joined_at_home home.0 w is.home)

pub still_home : (home after : Seated) (w : View) → IsHome home.0 → after ≡ (joined_home home.0 w, home.1) → IsHome after.0
still_home home after w is e = subst (λ (m : Seated). IsHome m.0) (sym e) (record { home = is.home; unspent = is.unspent })
