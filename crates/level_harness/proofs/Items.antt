-- What holds of each item of a list as it grows or shrinks at its end.
use Rattle.std.proofs.Common.{◌≡◌, ℕ, zero, suc, ◌+◌, ◌<◌, List, [], ◌∷◌, ◌++◌, length, get_or, set, take, drop, ap, sym, ◌∙◌, subst, arith}
use Rattle.std.proofs.Common.{Some}
use Rattle.std.proofs.lemmas.List.{append-nil, drop_all, take_all}
use Rattle.std.specs.Prelude.{slice_get}
use Rattle.std.proofs.lemmas.Option.{get_or_from_slice_get}
use mathlib.Core.Logic.{dite}
use native.Mathlib.Decide.{ℕ_discrete}
use Rattle.clof_compose.proofs.Lists.{get_last, get_longer}

-- what holds of the items below a place, and of the one there, holds of those up to it
pub below_item : {A : Type 0} (Q : A → Type 0) (xs : List A) (i : ℕ) (x : A) → ((k : ℕ) (a : A) → k < i → slice_get xs k ≡ Some a → Q a)
    → i < length xs → x ≡ get_or xs i x → Q x → (k : ℕ) (a : A) → k < i + 1 → slice_get xs k ≡ Some a → Q a
below_item {A} Q xs i x below within is here k a h e = dite (ℕ_discrete k i)
    (λ same. let at : get_or xs i x ≡ a = ap (λ (n : ℕ). get_or xs n x) (sym same) ∙ get_or_from_slice_get xs k a x e in
    subst Q (is ∙ at) here)
    (λ other. below k a (omega (arith, h, other)) e)

-- the items before the last one
pub in_front : {A : Type 0} (Q : ℕ → A → Type 0) (xs front : List A) (x : A) → xs ≡ front ++ x ∷ []
    → ((k : ℕ) (a : A) → slice_get xs k ≡ Some a → Q k a) → (k : ℕ) (a : A) → slice_get front k ≡ Some a → Q k a
in_front {A} Q xs front x cut each k a e = each k a (ap (λ (l : List A). slice_get l k) cut ∙ get_longer front (x ∷ []) k a e)

-- the last one
pub at_end : {A : Type 0} (Q : ℕ → A → Type 0) (xs front : List A) (x : A) → xs ≡ front ++ x ∷ []
    → ((k : ℕ) (a : A) → slice_get xs k ≡ Some a → Q k a) → Q (length front) x
at_end {A} Q xs front x cut each = each (length front) x (ap (λ (l : List A). slice_get l (length front)) cut ∙ get_last front x)

-- items that are read from the end, once none is left before them
pub from_first : {A : Type 0} (Q : ℕ → A → Type 0) (n : ℕ) (xs turned : List A) → n ≡ 0 → xs ≡ turned
    → ((k : ℕ) (a : A) → slice_get turned k ≡ Some a → Q (n + k) a) → (k : ℕ) (a : A) → slice_get xs k ≡ Some a → Q k a
from_first {A} Q n xs turned none same each k a e =
    subst (λ (m : ℕ). Q m a) (omega (arith, none)) (each k a (ap (λ (l : List A). slice_get l k) (sym same) ∙ e))

-- what holds of each item holds where one is replaced by another of which it holds
pub set_each : {A : Type 0} (Q : ℕ → A → Type 0) (xs : List A) (i : ℕ) (y : A)
    → ((k : ℕ) (a : A) → slice_get xs k ≡ Some a → Q k a) → Q i y → (k : ℕ) (a : A) → slice_get (set xs i y) k ≡ Some a → Q k a
set_each Q [] i y each here k a e = absurd (cc)
set_each Q (x ∷ xs) zero y each here zero a e = let same : y ≡ a = cc in subst (Q zero) same here
set_each Q (x ∷ xs) zero y each here (suc k) a e = each (suc k) a e
set_each Q (x ∷ xs) (suc i) y each here zero a e = each zero a e
set_each Q (x ∷ xs) (suc i) y each here (suc k) a e = set_each (λ n. Q (suc n)) xs i y (λ n. each (suc n)) here k a e

-- a list that was written to as a whole
pub written_all : {A : Type 0} (xs ys : List A) (n : ℕ) → length ys ≡ length xs → n ≡ length xs → take n (ys ++ drop (length ys) xs) ≡ ys
written_all {A} xs ys n same all =
    let none : drop (length ys) xs ≡ [] = drop_all (length ys) xs (omega (arith, same)) in
    ap (λ (l : List A). take n (ys ++ l)) none ∙ ap (take n) (append-nil ys) ∙ take_all n ys (omega (arith, same, all))
