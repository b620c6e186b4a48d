-- How often a number stands in a list.
use Rattle.std.proofs.Common.{◌≡◌, ◌≢◌, ℕ, ◌+◌, ◌≤◌, Bool, true, false, cond, not, ◌==◌, eq-eqb, List, [], ◌∷◌, ◌++◌, length, refl}
use Rattle.std.proofs.Common.{arith, subst}
use Rattle.std.proofs.lemmas.Bool.Decides.{nat_tests}
use Rattle.std.proofs.lemmas.List.Sums.{sum_by-cons, sum_by-append, sum_by_push}
use mathlib.Core.Logic.{dite}
use native.Mathlib.Decide.{ℕ_discrete}
use Rattle.cohort_queue.specs.Numbers.{times, IsNotIn, AreDistinct, without}
use Rattle.cohort_queue.specs.Rule.{times_queued}

abbrev pub hits : ℕ → ℕ → ℕ
hits y x = cond (y == x) 1 0

pub hits_self : (x : ℕ) → hits x x ≡ 1
hits_self x = let e : (x == x) ≡ true = eq-eqb x x refl in rw e refl

pub hits_le : (y x : ℕ) → hits y x ≤ 1
hits_le y x = grind (arith, nat_tests)

hits_not : (y x : ℕ) → y ≢ x → hits y x + 0 ≡ 0
hits_not y x n = grind (arith, nat_tests)

pub times_cons : (x y : ℕ) (ys : List ℕ) → times x (y ∷ ys) ≡ hits y x + times x ys
times_cons x y ys = sum_by-cons (λ z. hits z x) y ys

pub times_push : (x : ℕ) (ys : List ℕ) (y : ℕ) → times x (ys ++ y ∷ []) ≡ times x ys + hits y x
times_push x ys y = sum_by_push (λ z. hits z x) ys y

pub times_append : (x : ℕ) (ys zs : List ℕ) → times x (ys ++ zs) ≡ times x ys + times x zs
times_append x ys zs = sum_by-append (λ z. hits z x) ys zs

module _ {J : Type 0} (number : J → ℕ) where
  pub queued_cons : (x : ℕ) (j : J) (js : List J) → times_queued number x (j ∷ js) ≡ hits (number j) x + times_queued number x js
  queued_cons x j js = sum_by-cons (λ i. hits (number i) x) j js

  pub queued_push : (x : ℕ) (js : List J) (j : J) → times_queued number x (js ++ j ∷ []) ≡ times_queued number x js + hits (number j) x
  queued_push x js j = sum_by_push (λ i. hits (number i) x) js j

-- the others of a list: each as often as before
without_step : (x y : ℕ) (ys : List ℕ) (b : Bool) → (y == x) ≡ b → (z : ℕ)
    → times z (cond (not b) (y ∷ without x ys) (without x ys)) + cond (x == z) (cond b 1 0) 0 ≡ hits y z + times z (without x ys)
without_step x y ys true e z = grind (arith, nat_tests)
without_step x y ys false e z = let c = times_cons z y (without x ys) in grind (arith, nat_tests)

pub without_times : (x z : ℕ) (ys : List ℕ) → times z (without x ys) + cond (x == z) (times x ys) 0 ≡ times z ys
without_times x z [] = grind (arith, nat_tests)
without_times x z (y ∷ ys) =
    let s = without_step x y ys (y == x) refl z in
    let h = without_times x z ys in
    let c = times_cons z y ys in
    let d = times_cons x y ys in grind (arith, nat_tests)

pub without_length : (x : ℕ) (ys : List ℕ) → length (without x ys) + times x ys ≡ length ys
without_length x [] = refl
without_length x (y ∷ ys) =
    let h = without_length x ys in
    let d = times_cons x y ys in grind (arith, nat_tests)

-- one more number
pub one_more : (xs : List ℕ) (y : ℕ) → AreDistinct xs → IsNotIn y xs → AreDistinct (xs ++ y ∷ [])
one_more xs y distinct new x = dite (ℕ_discrete y x)
    (λ same. let none : times x xs ≡ 0 = subst (λ z. times z xs ≡ 0) same new in omega (arith, none, times_push x xs y, hits_le y x))
    (λ other. omega (arith, distinct x, times_push x xs y, hits_not y x other))
