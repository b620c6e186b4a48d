-- The tokens of a Fresh, given out and taken back.
use Rattle.std.proofs.Common.{◌≡◌, ◌⊎◌, ℕ, zero, suc, ◌+◌, ◌-◌, List, [], ◌∷◌, ◌++◌, length, Some, slice_get}
use Rattle.std.proofs.Common.{refl, ap, sym, ◌∙◌, subst, ⊎_elim, inl, inr, length-append, arith}
use Rattle.std.specs.Prelude.{All}
use Rattle.std.proofs.lemmas.List.Elements.{All-nil, All-push}
use Rattle.atomic_table.specs.Seated.{TableId}
use Rattle.atomic_table.specs.declared.badge.Badge.{Badge}
use Rattle.fresh_root.specs.Prefixes.{StandsAt}
use Rattle.fresh_root.specs.Seens.{first_or}
use Rattle.fresh_root.specs.Steps.{Seated}
use Rattle.fresh_root.specs.Views.{first_view, copy_of}
use Rattle.fresh_root.specs.declared.view.View.{View}
use Rattle.fresh_root.specs.States.{SeenState, AreAll}

get_end : (xs : List SeenState) (x y : SeenState) (k : ℕ) → slice_get (xs ++ x ∷ []) k ≡ Some y
    → (slice_get xs k ≡ Some y) ⊎ ((k ≡ length xs) × (x ≡ y))
get_end [] x y zero e = inr (refl, cc)
get_end [] x y (suc k) e = absurd (cc)
get_end (z ∷ zs) x y zero e = inl e
get_end (z ∷ zs) x y (suc k) e = ⊎_elim (λ t. inl t) (λ (t : (k ≡ length zs) × (x ≡ y)). inr (ap suc t.0, t.1)) (get_end zs x y k e)

-- so many tokens were given out, none of which saw a call
pub record Given (fresh : TableId) (count : ℕ) (seens : List SeenState) : Type 0 where
  pub all : AreAll fresh count seens
  pub blank : All (λ s. s.list ≡ []) seens

pub none_given : (fresh : TableId) (seens : List SeenState) → seens ≡ [] → Given fresh 0 seens
none_given fresh seens none = subst (Given fresh 0) (sym none) (record {
  all = record { all = refl; each = λ k s e. absurd (cc) };
  blank = All-nil (λ (s : SeenState). s.list ≡ []);
})

pub one_more_given : (fresh : TableId) (count : ℕ) (seens : List SeenState) (s : SeenState) → Given fresh count seens
    → s ≡ record { fresh = fresh; caller = count; list = [] } → Given fresh (count + 1) (seens ++ s ∷ [])
one_more_given fresh count seens s had is = record {
  all = record {
    all = let a = length-append seens (s ∷ []) in omega (arith, a, had.all.all);
    each = λ k t e. ⊎_elim (λ e'. had.all.each k t e')
        (λ (last : (k ≡ length seens) × (s ≡ t)). record {
          fresh_is = ap (λ (x : SeenState). x.fresh) (sym last.1 ∙ is);
          caller_is = ap (λ (x : SeenState). x.caller) (sym last.1 ∙ is) ∙ sym (last.0 ∙ had.all.all);
        })
        (get_end seens s t k e);
  };
  blank = All-push (λ (x : SeenState). x.list ≡ []) seens s had.blank (ap (λ (x : SeenState). x.list) is);
}

-- the caller of the last call stands at the last place
at_last : (xs : List ℕ) (caller : ℕ) → StandsAt caller (length xs) (xs ++ caller ∷ [])
at_last [] caller = refl
at_last (x ∷ xs) caller = at_last xs caller

pub last_stands : (xs calls : List ℕ) (caller n : ℕ) → calls ≡ xs ++ caller ∷ [] → n ≡ length calls → StandsAt caller (n - 1) calls
last_stands xs calls caller n e long =
    let turn : n - 1 ≡ length xs = let a = ap length e in omega (arith, a, length-append xs (caller ∷ []), long) in
    subst (λ (t : ℕ × List ℕ). StandsAt caller t.0 t.1) (λ i. (sym turn i, sym e i)) (at_last xs caller)

abbrev seen_at : TableId → ℕ → List ℕ → SeenState
seen_at fresh caller list = record { fresh = fresh; caller = caller; list = list }

-- the token of a seat that was split off the home seat before any call
pub new_token : (fresh : TableId) (caller : ℕ) (badge : Badge View) (seat home : Seated) → badge.table_id ≡ fresh
    → badge.views ≡ seat.0 ∷ [] → seat ≡ (copy_of home.0, []) → home ≡ (first_view, [])
    → seen_at badge.table_id caller (first_or badge.views).list ≡ seen_at fresh caller []
new_token fresh caller badge seat home table views copy first =
    let view : first_or badge.views ≡ copy_of first_view = ap first_or views ∙ ap (λ (m : Seated). m.0) copy
    ∙ ap (λ (m : Seated). copy_of m.0) first in
    λ i. record { fresh = table i; caller = caller; list = (view i).list }
