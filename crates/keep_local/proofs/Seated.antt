-- The home seat of a trail between the joining and the splitting of a share's seat.
use Rattle.std.proofs.Common.{◌≡◌, ℕ, List, [], ◌∷◌, ap, sym, ◌∙◌, subst}
use Rattle.std.proofs.lemmas.List.Elements.{All-head}
use Rattle.atomic_table.specs.Seated.{TableId}
use Rattle.atomic_table.specs.declared.badge.Badge.{Badge}
use Rattle.keep_local.specs.declared.view.Tally.{Tally}
use Rattle.keep_local.specs.declared.view.View.{View}
use Rattle.keep_local.specs.States.{ShareState, TieState}
use Rattle.keep_local.specs.Views.{home_view, share_view, spent_view, joined_view}
use Rattle.keep_local.specs.Tie.{IsTallyOf}
use Rattle.keep_local.specs.Steps.{Seated, IsTold}

abbrev view_or : List View → View
view_or [] = spent_view
view_or (v ∷ vs) = v

-- the view of a seat that was a badge
pub view_is : (a b : Badge View) (v w : View) → a ≡ b → b.views ≡ v ∷ [] → a.views ≡ w ∷ [] → w ≡ v
view_is a b v w same is was = ap view_or (sym was ∙ ap (λ (x : Badge View). x.views) same ∙ is)

-- the seat of a share is at the trail's table
pub at_table : (a b : Badge View) (z : TableId) (share share' : ShareState) (tie tie' : TieState) → z ≡ a.table_id → a ≡ b
    → b.table_id ≡ share.name → share ≡ share' → share'.name ≡ tie'.name → tie ≡ tie' → z ≡ tie.name
at_table a b z share share' tie tie' e same named s own t = e ∙ ap (λ (x : Badge View). x.table_id) same ∙ named
    ∙ ap (λ (x : ShareState). x.name) s ∙ own ∙ sym (ap (λ (x : TieState). x.name) t)

-- the home seat with a share's tally
pub joined_is : (before after : Seated) (w : View) (quotas callers : List ℕ) (t : Tally) → after ≡ (joined_view before.0 w, before.1)
    → before ≡ (home_view quotas callers [], []) → w ≡ share_view t
    → after ≡ (home_view quotas callers (t ∷ []), [])
joined_is before after w quotas callers t e b s = e ∙ (λ i. (joined_view (b i).0 (s i), (b i).1))

-- what the home seat is told of a share's tally
pub tally_is : (me : Seated) (found : ℕ) (quotas callers : List ℕ) (t : Tally) → me ≡ (home_view quotas callers (t ∷ []), [])
    → IsTold me.0 found → IsTallyOf quotas callers t
tally_is me found quotas callers t e told =
    let v : View = home_view quotas callers (t ∷ []) in
    let told' : IsTold v found = subst (λ (m : Seated). IsTold m.0 found) e told in
    All-head (IsTallyOf quotas callers) t [] told'.tallies
