-- What holds of each item of a list in which items are looked at and replaced.
use Rattle.std.proofs.Common.{◌≡◌, ℕ, zero, suc, ◌+◌, ◌<◌, ◌≤◌, List, [], ◌∷◌, ◌++◌, length, get_or, set, take, drop, refl, ap, sym, ◌∙◌}
use Rattle.std.proofs.Common.{subst, arith, Option, Some}
use Rattle.std.specs.Prelude.{slice_get}
use Rattle.std.proofs.lemmas.List.{append-nil, drop_all, take_all}
use Rattle.std.proofs.lemmas.Option.{get_or_from_slice_get}
use mathlib.Core.Logic.{dite}
use native.Mathlib.Decide.{ℕ_discrete}

-- what holds of the items below a place, and of the one there, holds of those up to it
pub below_item : {A : Type 0} (Q : A → Type 0) (xs : List A) (i : ℕ) (x : A) → ((k : ℕ) (a : A) → k < i → slice_get xs k ≡ Some a → Q a)
    → i < length xs → x ≡ get_or xs i x → Q x → (k : ℕ) (a : A) → k < i + 1 → slice_get xs k ≡ Some a → Q a
below_item {A} Q xs i x below within is here k a h e = dite (ℕ_discrete k i)
    (λ same. let at : get_or xs i x ≡ a = ap (λ (n : ℕ). get_or xs n x) (sym same) ∙ get_or_from_slice_get xs k a x e in
    subst Q (is ∙ at) here)
    (λ other. below k a (omega (arith, h, other)) e)

-- a list that was written to as a whole
pub written_all : {A : Type 0} (xs ys : List A) (n : ℕ) → length ys ≡ length xs → n ≡ length xs → take n (ys ++ drop (length ys) xs) ≡ ys
written_all {A} xs ys n same all =
    let none : drop (length ys) xs ≡ [] = drop_all (length ys) xs (omega (arith, same)) in
    ap (λ (l : List A). take n (ys ++ l)) none ∙ ap (take n) (append-nil ys) ∙ take_all n ys (omega (arith, same, all))

-- what holds of each item holds where one is replaced by another of which it holds
pub set_each : {A : Type 0} (Q : ℕ → A → Type 0) (xs : List A) (i : ℕ) (y : A)
    → ((k : ℕ) (a : A) → slice_get xs k ≡ Some a → Q k a) → Q i y → (k : ℕ) (a : A) → slice_get (set xs i y) k ≡ Some a → Q k a
set_each Q [] i y each here k a e = absurd (cc)
set_each Q (x ∷ xs) zero y each here zero a e = let same : y ≡ a = cc in subst (Q zero) same here
set_each Q (x ∷ xs) zero y each here (suc k) a e = each (suc k) a e
set_each Q (x ∷ xs) (suc i) y each here zero a e = each zero a e
set_each Q (x ∷ xs) (suc i) y each here (suc k) a e = set_each (λ n. Q (suc n)) xs i y (λ n. each (suc n)) here k a e

set_other : {A : Type 0} (xs : List A) (i k : ℕ) (y : A) → (k ≡ i → ⊥) → slice_get (set xs i y) k ≡ slice_get xs k
set_other [] i k y other = refl
set_other (x ∷ xs) zero zero y other = absurd (other refl)
set_other (x ∷ xs) zero (suc k) y other = refl
set_other (x ∷ xs) (suc i) zero y other = refl
set_other (x ∷ xs) (suc i) (suc k) y other = set_other xs i k y (λ same. other (ap suc same))

set_same : {A : Type 0} (xs : List A) (i : ℕ) (y a : A) → slice_get (set xs i y) i ≡ Some a → y ≡ a
set_same [] i y a e = absurd (cc)
set_same (x ∷ xs) zero y a e = cc
set_same (x ∷ xs) (suc i) y a e = set_same xs i y a e

-- a pass over a list in which each item is replaced by what a step makes of it: one item more
module _ {A : Type 0} (R : A → A → Type 0) (was xs : List A) (i : ℕ) (x y : A) (item : slice_get xs i ≡ Some x) (step : R x y)
    (others : (k : ℕ) → i ≤ k → slice_get xs k ≡ slice_get was k) where
  pub stepped_more : ((k : ℕ) (a b : A) → k < i → slice_get was k ≡ Some a → slice_get xs k ≡ Some b → R a b) → (k : ℕ) (a b : A)
      → k < i + 1 → slice_get was k ≡ Some a → slice_get (set xs i y) k ≡ Some b → R a b
  stepped_more below k a b within e e' = dite (ℕ_discrete k i)
      (λ same.
      let both : ◌≡◌ {A = Option A} (Some x) (Some a) =
      sym item ∙ others i (omega arith) ∙ ap (slice_get was) (sym same) ∙ e in
      let first : x ≡ a = cc in
      let second : y ≡ b = set_same xs i y b (ap (slice_get (set xs i y)) (sym same) ∙ e') in
      subst (λ (one : A). R one b) first (subst (R x) second step))
      (λ other. below k a b (omega (arith, within, other)) e (sym (set_other xs i k y other) ∙ e'))

  pub others_more : (k : ℕ) → i + 1 ≤ k → slice_get (set xs i y) k ≡ slice_get was k
  others_more k within = set_other xs i k y (λ same. omega (arith, within, same)) ∙ others k (omega (arith, within))
