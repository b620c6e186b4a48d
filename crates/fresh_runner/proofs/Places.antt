-- The places of a caller in longer lists.
use Rattle.std.proofs.Common.{◌≡◌, ℕ, ◌+◌, true, List, [], ◌∷◌, ◌++◌, length, map, refl, ap, ◌∙◌, arith}
use Rattle.std.specs.Prelude.{◌==◌, filter}
use Rattle.std.specs.List.{count_by, enumerate_from}
use Rattle.std.proofs.lemmas.Bool.{eq-eqb}
use Rattle.std.proofs.lemmas.List.{append-nil, length-map, map-append}
use Rattle.std.proofs.lemmas.List.Elements.{filter-append}
use Rattle.std.proofs.lemmas.List.Sums.{length-filter, sum_by-append, sum_by-cons}
use Rattle.keep_local.specs.Views.{times}
use Rattle.keep_local.proofs.Counts.{one_if}
use Rattle.fresh_runner.specs.Places.{places_of}

-- the places from a number on
abbrev places_from : ℕ → ℕ → List ℕ → List ℕ
places_from n caller calls = map (λ at. at.0) (filter (λ at. at.1 == caller) (enumerate_from n calls))

enumerate_append : (n : ℕ) (xs ys : List ℕ) → enumerate_from n (xs ++ ys) ≡ enumerate_from n xs ++ enumerate_from (n + length xs) ys
enumerate_append n [] ys = let same : n ≡ n + 0 = omega arith in ap (λ k. enumerate_from k ys) same
enumerate_append n (x ∷ xs) ys =
    let same : n + 1 + length xs ≡ n + length (x ∷ xs) = omega arith in
    ap (λ rest. (n, x) ∷ rest) (enumerate_append (n + 1) xs ys ∙ ap (λ k. enumerate_from (n + 1) xs ++ enumerate_from k ys) same)

from_append : (n caller : ℕ) (xs ys : List ℕ)
    → places_from n caller (xs ++ ys) ≡ places_from n caller xs ++ places_from (n + length xs) caller ys
from_append n caller xs ys =
    let is = λ (at : ℕ × ℕ). at.1 == caller in
    ap (λ (l : List (ℕ × ℕ)). map (λ at. at.0) (filter is l)) (enumerate_append n xs ys)
    ∙ ap (map (λ (at : ℕ × ℕ). at.0)) (filter-append is (enumerate_from n xs) (enumerate_from (n + length xs) ys))
    ∙ map-append (λ (at : ℕ × ℕ). at.0) (filter is (enumerate_from n xs)) (filter is (enumerate_from (n + length xs) ys))

count_enumerated : (n caller : ℕ) (xs : List ℕ) → count_by (λ (at : ℕ × ℕ). at.1 == caller) (enumerate_from n xs) ≡ times caller xs
count_enumerated n caller [] = refl
count_enumerated n caller (x ∷ xs) =
    omega (
      arith,
      sum_by-cons (λ (at : ℕ × ℕ). one_if (at.1 == caller)) (n, x) (enumerate_from (n + 1) xs),
      sum_by-cons (λ (y : ℕ). one_if (y == caller)) x xs,
      count_enumerated (n + 1) caller xs,
    )

length_from : (n caller : ℕ) (xs : List ℕ) → length (places_from n caller xs) ≡ times caller xs
length_from n caller xs =
    let is = λ (at : ℕ × ℕ). at.1 == caller in
    length-map (filter is (enumerate_from n xs)) (λ at. at.0) ∙ length-filter is (enumerate_from n xs) ∙ count_enumerated n caller xs

-- there are as many places as the caller has calls
pub length_places : (caller : ℕ) (xs : List ℕ) → length (places_of caller xs) ≡ times caller xs
unfolding places_of
length_places caller xs = length_from 0 caller xs

pub no_places : (caller : ℕ) → places_of caller [] ≡ []
unfolding places_of
no_places caller = refl

none_left : {A : Type 0} (xs : List A) → length xs ≡ 0 → xs ≡ []
none_left [] e = refl
none_left (x ∷ xs) e = absurd (omega (arith, e))

-- calls of others behind change no place: where the caller has as many calls in a list as in a beginning of it, its places are the same
pub places_stay : (caller : ℕ) (xs behind all : List ℕ) → all ≡ xs ++ behind → times caller all ≡ times caller xs
    → places_of caller all ≡ places_of caller xs
unfolding places_of
places_stay caller xs behind all are many =
    let cut = sum_by-append (λ (y : ℕ). one_if (y == caller)) xs behind in
    let all_many = ap (times caller) are in
    let none : times caller behind ≡ 0 = omega (arith, cut, all_many, many) in
    let empty = none_left (places_from (0 + length xs) caller behind) (length_from (0 + length xs) caller behind ∙ none) in
    ap (places_from 0 caller) are ∙ from_append 0 caller xs behind ∙ ap (λ l. places_from 0 caller xs ++ l) empty
    ∙ append-nil (places_from 0 caller xs)

one_from : (n caller : ℕ) → places_from n caller (caller ∷ []) ≡ n ∷ []
one_from n caller =
    let yes : (caller == caller) ≡ true = eq-eqb caller caller refl in
    ap (λ b. map (λ (at : ℕ × ℕ). at.0) (Rattle.std.specs.Prelude.cond b ((n, caller) ∷ []) [])) yes

-- a call of the caller behind them is at the end
pub places_more : (caller : ℕ) (xs : List ℕ) → places_of caller (xs ++ caller ∷ []) ≡ places_of caller xs ++ length xs ∷ []
unfolding places_of
places_more caller xs =
    let same : 0 + length xs ≡ length xs = omega arith in
    from_append 0 caller xs (caller ∷ []) ∙ ap (λ l. places_from 0 caller xs ++ l) (one_from (0 + length xs) caller)
    ∙ ap (λ n. places_from 0 caller xs ++ n ∷ []) same
