-- Items of lists that are written to and that grow or shrink at their ends.
use Rattle.std.proofs.Common.{
  ◌≡◌,
  ◌<◌,
  ◌⊎◌,
  ℕ,
  zero,
  suc,
  ◌+◌,
  List,
  [],
  ◌∷◌,
  ◌++◌,
  length,
  refl,
  ap,
  sym,
  ◌∙◌,
  arith,
  inl,
  inr,
  Option,
  Some,
  slice_set,
}
use Rattle.std.proofs.lemmas.List.{length-append}
use Rattle.std.specs.Prelude.{slice_get}

pub get_set_same : {A : Type 0} (xs : List A) (i : ℕ) (y : A) → i < length xs → slice_get (slice_set xs i y) i ≡ Some y
get_set_same [] i y within = absurd (omega (arith, within))
get_set_same (x ∷ xs) zero y within = refl
get_set_same (x ∷ xs) (suc i) y within = get_set_same xs i y (omega (arith, within))

pub get_set_other : {A : Type 0} (xs : List A) (i k : ℕ) (y : A) → (k ≡ i → ⊥) → slice_get (slice_set xs i y) k ≡ slice_get xs k
get_set_other [] i k y other = refl
get_set_other (x ∷ xs) zero zero y other = absurd (other refl)
get_set_other (x ∷ xs) zero (suc k) y other = refl
get_set_other (x ∷ xs) (suc i) zero y other = refl
get_set_other (x ∷ xs) (suc i) (suc k) y other = get_set_other xs i k y (λ same. other (ap suc same))

-- the item that was written
pub set_is : {A : Type 0} (xs : List A) (i : ℕ) (y a : A) → slice_get (slice_set xs i y) i ≡ Some a → y ≡ a
set_is [] i y a e = absurd (cc)
set_is (x ∷ xs) zero y a e = cc
set_is (x ∷ xs) (suc i) y a e = set_is xs i y a e

pub item_at : {A : Type 0} (xs : List A) (k : ℕ) → k < length xs → (x : A) × (slice_get xs k ≡ Some x)
item_at [] k within = absurd (omega (arith, within))
item_at (x ∷ xs) zero within = (x, refl)
item_at (x ∷ xs) (suc k) within = item_at xs k (omega (arith, within))

pub get_longer : {A : Type 0} (l m : List A) (k : ℕ) (a : A) → slice_get l k ≡ Some a → slice_get (l ++ m) k ≡ Some a
get_longer [] m k a e = absurd (cc)
get_longer (x ∷ xs) m zero a e = e
get_longer (x ∷ xs) m (suc k) a e = get_longer xs m k a e

pub get_last : {A : Type 0} (l : List A) (a : A) → slice_get (l ++ a ∷ []) (length l) ≡ Some a
get_last [] a = refl
get_last (x ∷ xs) a = get_last xs a

-- an item of a list that has one more
pub get_end : {A : Type 0} (l : List A) (y : A) (k : ℕ) (a : A) → slice_get (l ++ y ∷ []) k ≡ Some a
    → (slice_get l k ≡ Some a) ⊎ ((k ≡ length l) × (y ≡ a))
get_end [] y zero a e = inr (refl, (let same : y ≡ a = cc in same))
get_end [] y (suc k) a e = absurd (cc)
get_end (x ∷ xs) y zero a e = inl e
get_end (x ∷ xs) y (suc k) a e = suc_end (get_end xs y k a e)
  where
    suc_end : (slice_get xs k ≡ Some a) ⊎ ((k ≡ length xs) × (y ≡ a)) → (slice_get (x ∷ xs) (suc k) ≡ Some a) ⊎ ((suc k ≡ length (x ∷
        xs)) × (y ≡ a))
    suc_end (inl there) = inl there
    suc_end (inr end) = inr (ap suc end.0, end.1)

pub length_more : {A : Type 0} (l longer : List A) (a : A) → longer ≡ l ++ a ∷ [] → length longer ≡ length l + 1
length_more l longer a e = ap length e ∙ length-append l (a ∷ [])

pub no_items : {A : Type 0} (xs : List A) → length xs ≡ 0 → xs ≡ []
no_items [] e = refl
no_items (x ∷ xs) e = absurd (omega (arith, e))

-- what holds of each item holds of those before the last
pub in_front : {A : Type 0} (Q : ℕ → A → Type 0) (xs front : List A) (x : A) → xs ≡ front ++ x ∷ []
    → ((k : ℕ) (a : A) → slice_get xs k ≡ Some a → Q k a) → (k : ℕ) (a : A) → slice_get front k ≡ Some a → Q k a
in_front {A} Q xs front x cut each k a e = each k a (ap (λ (l : List A). slice_get l k) cut ∙ get_longer front (x ∷ []) k a e)

-- and of the last
pub at_end : {A : Type 0} (Q : ℕ → A → Type 0) (xs front : List A) (x : A) → xs ≡ front ++ x ∷ []
    → ((k : ℕ) (a : A) → slice_get xs k ≡ Some a → Q k a) → Q (length front) x
at_end {A} Q xs front x cut each = each (length front) x (ap (λ (l : List A). slice_get l (length front)) cut ∙ get_last front x)

-- what holds of each item and of a new one behind them
pub one_more_item : {A : Type 0} (Q : ℕ → A → Type 0) (xs longer : List A) (y : A) → longer ≡ xs ++ y ∷ []
    → ((k : ℕ) (a : A) → slice_get xs k ≡ Some a → Q k a) → Q (length xs) y → (k : ℕ) (a : A) → slice_get longer k ≡ Some a → Q k a
one_more_item {A} Q xs longer y is each last k a e = by_case (get_end xs y k a (ap (λ (l : List A). slice_get l k) (sym is) ∙ e))
  where
    by_case : (slice_get xs k ≡ Some a) ⊎ ((k ≡ length xs) × (y ≡ a)) → Q k a
    by_case (inl there) = each k a there
    by_case (inr end) = at_its_end end.0 end.1
      where
        at_its_end : k ≡ length xs → y ≡ a → Q k a
        at_its_end place same = Rattle.std.proofs.Common.subst (λ (b : A). Q k b) same (Rattle.std.proofs.Common.subst (λ (n : ℕ). Q n y)
            (sym place) last)
