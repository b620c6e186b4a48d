-- What stands in lists.
use Rattle.std.proofs.Common.{◌≡◌, ℕ, zero, suc, ◌<◌, List, [], ◌∷◌, length, refl, subst, arith, Some}
use Rattle.std.specs.Prelude.{All, slice_get}
use Rattle.std.proofs.lemmas.List.Elements.{All-head, All-tail}

-- something stands at each place within a list
pub item : {A : Type 0} (xs : List A) (k : ℕ) → k < length xs → (x : A) × (slice_get xs k ≡ Some x)
item [] k within = absurd (omega (arith, within))
item (x ∷ xs) zero within = (x, refl)
item (x ∷ xs) (suc k) within = item xs k (omega (arith, within))

-- what holds of all holds of what stands there
pub all_at : {A : Type 0} (Q : A → Type 0) (xs : List A) (k : ℕ) (x : A) → All Q xs → slice_get xs k ≡ Some x → Q x
all_at Q [] k x all e = absurd (cc)
all_at Q (y ∷ xs) zero x all e = let same : y ≡ x = cc in subst Q same (All-head Q y xs all)
all_at Q (y ∷ xs) (suc k) x all e = all_at Q xs k x (All-tail Q y xs all) e
