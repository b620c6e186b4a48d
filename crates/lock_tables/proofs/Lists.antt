-- Lists of seats and of views.
use Rattle.std.proofs.Common.{◌≡◌, ◌≢◌, ◌⊎◌, ℕ, zero, suc, ◌<◌, Bool, true, false, ◌&&◌, List, [], ◌∷◌, ◌++◌, length, map, set, slice_get}
use Rattle.std.proofs.Common.{slice_index, refl, ap, sym, ◌∙◌, inl, inr, ⊎_elim, arith, Some}
use mathlib.Core.Option.{some, some-injective, some-ne-none}
use lib.ListN.{get_elem?}
use Rattle.lock_rules.specs.declared.view.View.{View}
use Rattle.lock_tables.specs.Laws.{number_in, number_at}

module _ {A : Type 0} where
  pub set_at : (l : List A) (i : ℕ) (a b : A) → get_elem? l i ≡ some a → get_elem? (set l i b) i ≡ some b
  set_at [] i a b e = absurd (some-ne-none a (sym e))
  set_at (x ∷ xs) zero a b e = refl
  set_at (x ∷ xs) (suc i) a b e = set_at xs i a b e

  pub at_end : (l : List A) (a b : A) (i : ℕ) → get_elem? (l ++ a ∷ []) i ≡ some b → (get_elem? l i ≡ some b) ⊎ ((i ≡ length l) × (a ≡ b))
  at_end [] a b zero e = inr (refl, some-injective a b e)
  at_end [] a b (suc i) e = absurd (some-ne-none b (sym e))
  at_end (x ∷ xs) a b zero e = inl e
  at_end (x ∷ xs) a b (suc i) e = ⊎_elim (λ t. inl t) (λ (t : (i ≡ length xs) × (a ≡ b)). inr (ap suc t.0, t.1)) (at_end xs a b i e)

  -- a list with the head a
  pub head_cut : (l : List A) (a : A) → get_elem? l 0 ≡ some a → (t : List A) × (l ≡ a ∷ t)
  head_cut [] a e = absurd (some-ne-none a (sym e))
  head_cut (x ∷ xs) a e = (xs, λ i. some-injective x a e i ∷ xs)

  pub at_below : (l : List A) (i : ℕ) (x : A) → get_elem? l i ≡ some x → i < length l
  at_below [] i x e = absurd (some-ne-none x (sym e))
  at_below (y ∷ ys) zero x e = omega arith
  at_below (y ∷ ys) (suc i) x e = let r = at_below ys i x e in omega arith

  pub there : (l : List A) (i : ℕ) → i < length l → (a : A) × (get_elem? l i ≡ some a)
  there [] i h = absurd (omega arith)
  there (x ∷ xs) zero h = (x, refl)
  there (x ∷ xs) (suc i) h = there xs i (omega arith)

pub no_true : ¬ (true ≡ false)
no_true e = absurd (cc)

pub both_true : (a b : Bool) → (a && b) ≡ true → (a ≡ true) × (b ≡ true)
both_true true true e = (refl, refl)
both_true true false e = absurd (cc)
both_true false true e = absurd (cc)
both_true false false e = absurd (cc)

-- words after a store
pub wrote_here : (words : List ℕ) (i x : ℕ) → i < length words → slice_index (set words i x) i ≡ x
wrote_here [] i x h = absurd (omega arith)
wrote_here (w ∷ ws) zero x h = refl
wrote_here (w ∷ ws) (suc i) x h = wrote_here ws i x (omega arith)

pub wrote_else : (words : List ℕ) (i j x : ℕ) → j ≢ i → slice_index (set words i x) j ≡ slice_index words j
wrote_else [] i j x n = refl
wrote_else (w ∷ ws) zero zero x n = absurd (n refl)
wrote_else (w ∷ ws) zero (suc j) x n = refl
wrote_else (w ∷ ws) (suc i) zero x n = refl
wrote_else (w ∷ ws) (suc i) (suc j) x n = wrote_else ws i j x (λ e. n (ap suc e))

-- an element of a mapped list
pub mapped : (f : ℕ → ℕ) (l : List ℕ) (i x : ℕ) → slice_get (map f l) i ≡ Some x → (j : ℕ) × (get_elem? l i ≡ some j) × (f j ≡ x)
mapped f [] i x e = absurd (cc)
mapped f (y ∷ ys) zero x e = (y, refl, cc)
mapped f (y ∷ ys) (suc i) x e = mapped f ys i x e

pub mapped_at : (f : ℕ → ℕ) (l : List ℕ) (i j : ℕ) → get_elem? l i ≡ some j → slice_get (map f l) i ≡ Some (f j)
mapped_at f [] i j e = absurd (some-ne-none j (sym e))
mapped_at f (x ∷ xs) zero j e = ap (λ (y : ℕ). Some (f y)) (some-injective x j e)
mapped_at f (x ∷ xs) (suc i) j e = mapped_at f xs i j e

pub number_is : (views : List View) (j : ℕ) (v : View) → get_elem? views j ≡ some v → number_at views j ≡ v.number
number_is views j v e = ap number_in e

-- a step that leaves its seat's number leaves all
pub numbers_stay : (views : List View) (id : ℕ) (v w : View) → get_elem? views id ≡ some v → w.number ≡ v.number → (j : ℕ)
    → number_at (set views id w) j ≡ number_at views j
numbers_stay [] id v w e n j = refl
numbers_stay (u ∷ us) zero v w e n zero = n ∙ sym (ap (λ (x : View). x.number) (some-injective u v e))
numbers_stay (u ∷ us) zero v w e n (suc j) = refl
numbers_stay (u ∷ us) (suc id) v w e n zero = refl
numbers_stay (u ∷ us) (suc id) v w e n (suc j) = numbers_stay us id v w e n j

-- names that are the same at each seat of a list
pub names_stay : (f g : ℕ → ℕ) (seats : List ℕ) → ((i j : ℕ) → get_elem? seats i ≡ some j → f j ≡ g j) → map f seats ≡ map g seats
names_stay f g [] h = refl
names_stay f g (j ∷ js) h = λ k. h 0 j refl k ∷ names_stay f g js (λ i. h (suc i)) k
