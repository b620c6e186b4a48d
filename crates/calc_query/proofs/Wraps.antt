-- Numbers that go round.
use Rattle.std.proofs.Common.{◌≡◌, ℕ, suc, ◌+◌, ◌-◌, ◌*◌, ◌/◌, ◌%◌, ◌<◌, ◌≤◌, Bool, true, false, ◌&&◌, ◌==◌, nat_lt, ap}
use Rattle.std.proofs.Common.{◌∙◌, inl, inr, arith}
use Rattle.std.specs.List.{list_any, range_with_len}
use Rattle.std.proofs.lemmas.Bool.{cases_lt, lt-ltb, ltb-true, eq-eqb, eqb-true, and_from, and_parts, false≢true}
use Rattle.std.proofs.lemmas.Nat.{mod-mul-add, div-add-mod'}
use Rattle.std.proofs.lemmas.List.Folds.{list_any_at}
use Rattle.std.proofs.lemmas.List.FromFn.{length-range_with_len, get_or-range_with_len}
use Rattle.cpu_set.proofs.TestLaws.{same_tests}
use Rattle.topo_tree.proofs.PlaceLaws.{any_in_range}

-- a number of a range from 0 that passes
any_at : (test : ℕ → Bool) (count n : ℕ) → n < count → test n ≡ true → list_any test (range_with_len 0 count) ≡ true
any_at test count n within passes =
    let here : 0 + n ≡ n = omega arith in
    list_any_at test (range_with_len 0 count) n 0 (omega (arith, length-range_with_len 0 count))
    (ap test (get_or-range_with_len 0 count n 0 within ∙ here) ∙ passes)

module _ (first total number : ℕ) (low : first < total) (within : number < total) where
  -- how far a number stands from the first one on
  abbrev distance : ℕ
  distance = (number + total - first) % total

  distance_there : (first + distance) % total ≡ number
  distance_there =
      elim (cases_lt number first) [
        | inl before ↦
            let one : number + total - first ≡ 0 * total + (number + total - first) = omega arith in
            let same : distance ≡ number + total - first = ap (λ n. n % total) one
            ∙ mod-mul-add 0 total (number + total - first) (omega arith) in
            let round : first + distance ≡ 1 * total + number = omega (arith, same) in
            ap (λ n. n % total) round ∙ mod-mul-add 1 total number within
        | inr behind ↦
            let one : number + total - first ≡ 1 * total + (number - first) = omega arith in
            let same : distance ≡ number - first = ap (λ n. n % total) one ∙ mod-mul-add 1 total (number - first) (omega arith) in
            let here : first + distance ≡ 0 * total + number = omega (arith, same) in
            ap (λ n. n % total) here ∙ mod-mul-add 0 total number within
      ]

  distance_least : (t : ℕ) → (first + t) % total ≡ number → distance ≤ t
  distance_least t there =
      let quotient = (first + t) / total in
      let whole = div-add-mod' (first + t) total in
      elim (cases_lt number first) [
        | inl before ↦
            let one : number + total - first ≡ 0 * total + (number + total - first) = omega arith in
            let same : distance ≡ number + total - first = ap (λ n. n % total) one
            ∙ mod-mul-add 0 total (number + total - first) (omega arith) in
            elim (cases_lt 0 quotient) [
              | inl more ↦ omega (arith, same, whole, there, one_or_more quotient total more)
              | inr none ↦ absurd (let zero_quotient : quotient ≡ 0 = omega arith in
                  omega (arith, whole, there, ap (λ q. q * total) zero_quotient))
            ]
        | inr behind ↦
            let one : number + total - first ≡ 1 * total + (number - first) = omega arith in
            let same : distance ≡ number - first = ap (λ n. n % total) one ∙ mod-mul-add 1 total (number - first) (omega arith) in
            omega (arith, same, whole, there)
      ]
    where
      one_or_more : (q total : ℕ) → 0 < q → total ≤ q * total
      one_or_more q total some = let more : q ≡ suc (q - 1) = omega arith in omega (arith, ap (λ n. n * total) more)

  pub wraps : (count : ℕ) → nat_lt distance count
      ≡ (nat_lt first total && list_any (λ t. (first + t) % total == number) (range_with_len 0 count))
  wraps count =
      same_tests (nat_lt distance count) (nat_lt first total && list_any (λ t. (first + t) % total == number) (range_with_len 0 count))
      (λ near. and_from (nat_lt first total) (list_any (λ t. (first + t) % total == number) (range_with_len 0 count))
      (lt-ltb first total low)
      (any_at (λ t. (first + t) % total == number) count distance (ltb-true distance count near)
      (eq-eqb ((first + distance) % total) number distance_there)))
      (λ found.
      let at = any_in_range (λ t. (first + t) % total == number) 0 count
      (and_parts (nat_lt first total) (list_any (λ t. (first + t) % total == number) (range_with_len 0 count)) found).1 in
      lt-ltb distance count (omega (arith, distance_least at.0 (eqb-true ((first + at.0) % total) number at.3), at.2)))

-- numbers that don't go round
pub follows : (first count number : ℕ) → first ≤ number
    → nat_lt (number - first) count ≡ list_any (λ t. first + t == number) (range_with_len 0 count)
follows first count number low =
    same_tests (nat_lt (number - first) count) (list_any (λ t. first + t == number) (range_with_len 0 count))
    (λ near. any_at (λ t. first + t == number) count (number - first) (ltb-true (number - first) count near)
    (eq-eqb (first + (number - first)) number (omega arith)))
    (λ found.
    let at = any_in_range (λ t. first + t == number) 0 count found in
    lt-ltb (number - first) count (omega (arith, eqb-true (first + at.0) number at.3, at.2)))

pub none_before : (first count number : ℕ) → number < first → false ≡ list_any (λ t. first + t == number) (range_with_len 0 count)
none_before first count number before =
    same_tests false (list_any (λ t. first + t == number) (range_with_len 0 count)) (λ yes_a. absurd (false≢true yes_a))
    (λ found. let at = any_in_range (λ t. first + t == number) 0 count found in absurd (omega (arith, eqb-true (first + at.0) number at.3)))
