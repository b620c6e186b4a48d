-- The first number of a set.
use Rattle.std.proofs.Common.{◌≡◌, ◌<◌, ◌+◌, ℕ, List, [], ◌∷◌, Some, length, arith, refl, sym, ap, ◌∙◌, take}
use Rattle.std.specs.Prelude.{slice_get}
use Rattle.std.proofs.lemmas.List.Elements.{All-cons, All-nil}
use Rattle.cpu_set.specs.Sets.{IsSet, union}
use Rattle.cpu_set.specs.SetLaws.{numbers_where-has}

pub first_below : (set : List ℕ) (n : ℕ) → IsSet set → Some n ≡ slice_get set 0 → n < 4096
first_below [] n is first = cc
first_below (m ∷ rest) n is first =
    let same : n ≡ m = cc in
    let below : m < 4096 = is.below 0 0 (omega arith) in
    omega (arith, same, below)

one_is_set : (n : ℕ) → n < 4096 → IsSet (n ∷ [])
one_is_set n below = record {
  ascending = λ k within. absurd (omega arith);
  below = All-cons (λ m. m < 4096) n [] below (All-nil (λ m. m < 4096));
}

-- the set of one number
pub alone : (n : ℕ) → n < 4096 → union [] (n ∷ []) ≡ n ∷ []
alone n below = numbers_where-has (n ∷ []) (one_is_set n below)

pub first_taken : (set : List ℕ) (n : ℕ) → Some n ≡ slice_get set 0 → take 1 set ≡ n ∷ []
first_taken [] n first = cc
first_taken (m ∷ rest) n first = let same : n ≡ m = cc in ap (λ k. k ∷ []) (sym same)
