-- What holds of each item of a list as it shrinks at its end.
use Rattle.std.proofs.Common.{◌≡◌, ℕ, ◌+◌, List, [], ◌∷◌, ◌++◌, length, ap, sym, ◌∙◌, subst, arith, Some}
use Rattle.std.specs.Prelude.{slice_get}
use Rattle.clof_compose.proofs.Lists.{get_last, get_longer}

-- the items before the last one
pub in_front : {A : Type 0} (Q : ℕ → A → Type 0) (xs front : List A) (x : A) → xs ≡ front ++ x ∷ []
    → ((k : ℕ) (a : A) → slice_get xs k ≡ Some a → Q k a) → (k : ℕ) (a : A) → slice_get front k ≡ Some a → Q k a
in_front {A} Q xs front x cut each k a e = each k a (ap (λ (l : List A). slice_get l k) cut ∙ get_longer front (x ∷ []) k a e)

-- the last one
pub at_end : {A : Type 0} (Q : ℕ → A → Type 0) (xs front : List A) (x : A) → xs ≡ front ++ x ∷ []
    → ((k : ℕ) (a : A) → slice_get xs k ≡ Some a → Q k a) → Q (length front) x
at_end {A} Q xs front x cut each = each (length front) x (ap (λ (l : List A). slice_get l (length front)) cut ∙ get_last front x)

-- items that are read from the end, once none is left before them
pub from_first : {A : Type 0} (Q : ℕ → A → Type 0) (n : ℕ) (xs turned : List A) → n ≡ 0 → xs ≡ turned
    → ((k : ℕ) (a : A) → slice_get turned k ≡ Some a → Q (n + k) a) → (k : ℕ) (a : A) → slice_get xs k ≡ Some a → Q k a
from_first {A} Q n xs turned none same each k a e =
    subst (λ (m : ℕ). Q m a) (omega (arith, none)) (each k a (ap (λ (l : List A). slice_get l k) (sym same) ∙ e))
