-- Sets of listed numbers.
use Rattle.std.proofs.Common.{
  ◌≡◌,
  ℕ,
  ◌+◌,
  ◌<◌,
  Bool,
  true,
  false,
  ◌||◌,
  ◌==◌,
  List,
  [],
  ◌∷◌,
  ◌++◌,
  length,
  take,
  get_or,
  refl,
  sym,
  ap,
  ◌∙◌,
  arith,
}
use Rattle.std.proofs.lemmas.List.{take_more}
use Rattle.cpu_set.specs.Sets.{has, numbers_where, union}
use Rattle.cpu_set.specs.SetLaws.{has-numbers_below, numbers_below-same, numbers_where-has}

or_assoc : (a b c : Bool) → ((a || b) || c) ≡ (a || (b || c))
or_assoc true b c = refl
or_assoc false b c = refl

pub has-append : (xs ys : List ℕ) (n : ℕ) → has (xs ++ ys) n ≡ (has xs n || has ys n)
has-append [] ys n = refl
has-append (x ∷ xs) ys n = ap (λ b. (x == n) || b) (has-append xs ys n) ∙ sym (or_assoc (x == n) (has xs n) (has ys n))

-- a number more
pub set_more : (xs : List ℕ) (n : ℕ) → union (numbers_where (has xs)) (n ∷ []) ≡ numbers_where (has (xs ++ n ∷ []))
set_more xs n =
    numbers_below-same 4096 (λ k. has (numbers_where (has xs)) k || has (n ∷ []) k) (has (xs ++ n ∷ []))
    (λ k below. ap (λ b. b || has (n ∷ []) k) (has-numbers_below 4096 (has xs) k below) ∙ sym (has-append xs (n ∷ []) k))

pub set_step : (xs : List ℕ) (place : ℕ) → place < length xs
    → union (numbers_where (has (take place xs))) (get_or xs place 0 ∷ []) ≡ numbers_where (has (take (place + 1) xs))
set_step xs place within =
    set_more (take place xs) (get_or xs place 0) ∙ ap (λ ys. numbers_where (has ys)) (sym (take_more xs place 0 within))

-- no number
pub empty_set : numbers_where (has []) ≡ []
empty_set = numbers_where-has [] (record { ascending = λ k within. absurd (omega arith); below = λ k d within. absurd (omega arith) })
