-- Laws of the tests on two sets: what they say of each number.
use Rattle.std.proofs.Common.{◌≡◌, ℕ, ◌<◌, Bool, true, false, ◌&&◌, ◌||◌, ◌==◌, List, [], ◌∷◌, refl, sym, ap, ◌∙◌, inl, inr}
use Rattle.std.specs.List.{list_all}
use Rattle.std.proofs.lemmas.Bool.{
  cases_Bool,
  cases_lt,
  eqb-true,
  eq-eqb,
  false≢true,
  and_parts,
  and_from,
  or_left,
  or_right,
  or_cases,
  false_from_ne_true,
}
use Rattle.cpu_set.specs.Sets.{has, numbers_where}
use Rattle.cpu_set.specs.Tests.{meets, is_inside}
use Rattle.cpu_set.specs.SetLaws.{has-numbers_below, has-numbers_below_past}

-- tests that pass together are one test
pub same_tests : (one other : Bool) → (one ≡ true → other ≡ true) → (other ≡ true → one ≡ true) → one ≡ other
same_tests true true there back = refl
same_tests true false there back = sym (there refl)
same_tests false true there back = back refl
same_tests false false there back = refl

-- what a set of the numbers that pass has, passes and is below the limit
pub passes-has : (test : ℕ → Bool) (n : ℕ) → has (numbers_where test) n ≡ true → (n < 4096) × (test n ≡ true)
passes-has test n found = elim (cases_lt n 4096) [
  | inl below ↦ (below, sym (has-numbers_below 4096 test n below) ∙ found)
  | inr past ↦ absurd (false≢true (sym (has-numbers_below_past 4096 test n past) ∙ found))
]

has_here : (x n : ℕ) (xs : List ℕ) → (x == n) ≡ true → has (x ∷ xs) n ≡ true
has_here x n xs here = or_left (x == n) (has xs n) here

-- what is in a set is in a set that it is inside
pub inside-at : (one other : List ℕ) (n : ℕ) → is_inside one other ≡ true → has one n ≡ true → has other n ≡ true
unfolding is_inside
inside-at [] other n all found = absurd (false≢true found)
inside-at (x ∷ xs) other n all found =
    let parts = and_parts (has other x) (list_all (has other) xs) all in
    elim (or_cases (x == n) (has xs n) found) [
      | inl here ↦ ap (has other) (sym (eqb-true x n here)) ∙ parts.0
      | inr later ↦ inside-at xs other n parts.1 later
    ]

pub inside-by : (one other : List ℕ) → ((n : ℕ) → has one n ≡ true → has other n ≡ true) → is_inside one other ≡ true
unfolding is_inside
inside-by [] other each = refl
inside-by (x ∷ xs) other each =
    and_from (has other x) (list_all (has other) xs) (each x (has_here x x xs (eq-eqb x x refl)))
    (inside-by xs other (λ n later. each n (or_right (x == n) (has xs n) later)))

-- two sets meet where a number is in both
pub meets-by : (one other : List ℕ) (n : ℕ) → has one n ≡ true → has other n ≡ true → meets one other ≡ true
unfolding meets
meets-by [] other n found there = absurd (false≢true found)
meets-by (x ∷ xs) other n found there =
    elim (or_cases (x == n) (has xs n) found) [
      | inl here ↦ or_left (has other x) (meets xs other) (ap (has other) (eqb-true x n here) ∙ there)
      | inr later ↦ or_right (has other x) (meets xs other) (meets-by xs other n later there)
    ]

pub meets-none : (one other : List ℕ) → ((n : ℕ) → has one n ≡ true → has other n ≡ false) → meets one other ≡ false
unfolding meets
meets-none [] other each = refl
meets-none (x ∷ xs) other each =
    ap (λ b. b || meets xs other) (each x (has_here x x xs (eq-eqb x x refl)))
    ∙ meets-none xs other (λ n later. each n (or_right (x == n) (has xs n) later))
