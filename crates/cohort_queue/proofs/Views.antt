-- Views of which one changes.
use Rattle.std.proofs.Common.{◌≡◌, ◌≢◌, ℕ, ◌+◌, ◌<◌, ◌≤◌, List, [], ◌∷◌, ◌++◌, set, length, refl, ap, sym, ◌∙◌, subst, ⊎_elim, arith}
use Rattle.std.proofs.Common.{Option, zero, suc, ◌⊎◌, inl, inr}
use Rattle.std.specs.List.{sum_by}
use Rattle.std.proofs.lemmas.Bool.Decides.{nat_tests}
use Rattle.std.proofs.lemmas.List.Sums.{sum_by-cons}
use mathlib.Core.Option.{some, some-injective, some-ne-none}
use lib.ListN.{get_elem?}
use Rattle.atomic_table.proofs.Lists.{at_set}
use Rattle.lock_rules.proofs.Sums.{parts_le}
use Rattle.lock_rules.specs.declared.view.Tagged.{Tagged}
use Rattle.cohort_queue.proofs.Counted.{hits, hits_self, times_cons}
use Rattle.cohort_queue.specs.Numbers.{times, once_below}
use Rattle.cohort_queue.specs.Rule.{SeatStands}
use Rattle.cohort_queue.specs.Views.{IsSpent, HasAll}
use Rattle.cohort_queue.specs.declared.view.View.{View}

abbrev pub Each : (ℕ → View → Type 0) → List View → Type 0
Each F views = (j : ℕ) (v : View) → get_elem? views j ≡ some v → F j v

pub each_set : (F : ℕ → View → Type 0) (views : List View) (seat : ℕ) (w : View) → F seat w
    → ((j : ℕ) (v : View) → j ≢ seat → get_elem? views j ≡ some v → F j v) → Each F (set views seat w)
each_set F views seat w mine others j v e = ⊎_elim
    (λ (t : (j ≡ seat) × (w ≡ v)). subst (λ (x : ℕ × View). F x.0 x.1) (λ i. (sym t.0 i, t.1 i)) mine)
    (λ (t : (j ≢ seat) × (get_elem? views j ≡ some v)). others j v t.0 t.1)
    (at_set views seat j w v e)

at_end : (views : List View) (w v : View) (j : ℕ) → get_elem? (views ++ w ∷ []) j ≡ some v
    → (get_elem? views j ≡ some v) ⊎ ((j ≡ length views) × (w ≡ v))
at_end [] w v zero e = inr (refl, some-injective w v e)
at_end [] w v (suc j) e = absurd (some-ne-none v (sym e))
at_end (x ∷ xs) w v zero e = inl e
at_end (x ∷ xs) w v (suc j) e = ⊎_elim (λ t. inl t) (λ (t : (j ≡ length xs) × (w ≡ v)). inr (ap suc t.0, t.1)) (at_end xs w v j e)

pub each_push : (F : ℕ → View → Type 0) (views : List View) (w : View) → Each F views → F (length views) w → Each F (views ++ w ∷ [])
each_push F views w old new j v e = ⊎_elim
    (λ t. old j v t)
    (λ (t : (j ≡ length views) × (w ≡ v)). subst (λ (x : ℕ × View). F x.0 x.1) (λ i. (sym t.0 i, t.1 i)) new)
    (at_end views w v j e)

pub at_below : (views : List View) (j : ℕ) (v : View) → get_elem? views j ≡ some v → j < length views
at_below [] j v e = absurd (some-ne-none v (sym e))
at_below (x ∷ xs) zero v e = omega arith
at_below (x ∷ xs) (suc j) v e = let r = at_below xs j v e in omega arith

-- the same knowledge with other numbers out
pub same_knowledge : (given : List ℕ) (tag : Option Tagged) (split seat : ℕ) (v : View) (outs : List ℕ) → ¬ IsSpent v
    → SeatStands given tag split seat v → SeatStands given tag split seat (record v { outs = outs })
same_knowledge given tag split seat v outs live s = record {
  knows = λ n. let k = s.knows n in record { tag_is = k.tag_is; given_is = k.given_is };
  spent = λ e. absurd (live e);
  first = s.first;
}

below_once : (n k : ℕ) → once_below n k ≤ 1
below_once n k = grind (arith, nat_tests)

below_is : (n k : ℕ) → 1 ≤ once_below n k → k < n
below_is n k h = grind (arith, nat_tests)

-- a view with a number stands alone with it
no_number : (split : ℕ) (views : List View) (v u : View) (j k : ℕ) (ks : List ℕ)
    → ((k : ℕ) → sum_by (λ v. times k v.numbers) views ≡ once_below split k) → get_elem? views 0 ≡ some v → v.split ≡ split → HasAll v
    → get_elem? views j ≡ some u → j ≢ 0 → ¬ (u.numbers ≡ k ∷ ks)
no_number split views v u j k ks once at is all at' other e = absurd (
    let f : View → ℕ = λ v. times k v.numbers in
    let sum : sum_by f views ≡ once_below split k = once k in
    let both : f v + f u ≤ sum_by f views = parts_le f views 0 j v u (λ q. other (sym q)) at at' in
    let one : times k u.numbers ≡ hits k k + times k ks = ap (λ (l : List ℕ). times k l) e ∙ times_cons k k ks in
    let self = hits_self k in
    let below : k < split = below_is split k (omega (arith, sum, both, one, self)) in
    let mine : 1 ≤ times k v.numbers = all k (subst (λ n. k < n) (sym is) below) in
    omega (arith, sum, both, one, self, mine, below_once split k))

spent_by : (split : ℕ) (views : List View) (v u : View) (j : ℕ) (ks : List ℕ)
    → ((k : ℕ) → sum_by (λ v. times k v.numbers) views ≡ once_below split k) → get_elem? views 0 ≡ some v → v.split ≡ split → HasAll v
    → get_elem? views j ≡ some u → j ≢ 0 → u.numbers ≡ ks → IsSpent u
spent_by split views v u j [] once at is all at' other e = e
spent_by split views v u j (k ∷ ks) once at is all at' other e = absurd (no_number split views v u j k ks once at is all at' other e)

-- beside a first view that has all numbers each other one is spent
pub others_spent : (split : ℕ) (views : List View) (v u : View) (j : ℕ)
    → ((k : ℕ) → sum_by (λ v. times k v.numbers) views ≡ once_below split k) → get_elem? views 0 ≡ some v → v.split ≡ split → HasAll v
    → get_elem? views j ≡ some u → j ≢ 0 → IsSpent u
others_spent split views v u j once at is all at' other = spent_by split views v u j u.numbers once at is all at' other refl

-- a sum of which one part alone is more than 0
sum_none : {X : Type 0} (f : X → ℕ) (xs : List X) → ((j : ℕ) (x : X) → get_elem? xs j ≡ some x → f x ≡ 0) → sum_by f xs ≡ 0
sum_none f [] none = refl
sum_none f (x ∷ xs) none = let c = sum_by-cons f x xs in let a = none 0 x refl in let b = sum_none f xs (λ j. none (suc j)) in
    omega (arith, a, b, c)

pub sum_alone : {X : Type 0} (f : X → ℕ) (xs : List X) (i : ℕ) (x : X) → get_elem? xs i ≡ some x
    → ((j : ℕ) (y : X) → j ≢ i → get_elem? xs j ≡ some y → f y ≡ 0) → sum_by f xs ≡ f x
sum_alone f [] i x at none = absurd (some-ne-none x (sym at))
sum_alone f (y ∷ ys) zero x at none =
    let c = sum_by-cons f y ys in
    let a : f y ≡ f x = ap f (some-injective y x at) in
    let b = sum_none f ys (λ j z. none (suc j) z (λ e. absurd (omega (arith, e)))) in omega (arith, a, b, c)
sum_alone f (y ∷ ys) (suc i) x at none =
    let c = sum_by-cons f y ys in
    let a = none zero y (λ e. absurd (omega (arith, e))) refl in
    let b = sum_alone f ys i x at (λ j z n. none (suc j) z (λ e. n (omega (arith, e)))) in omega (arith, a, b, c)
