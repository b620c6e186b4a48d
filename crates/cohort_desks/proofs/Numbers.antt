-- Numbers in lists.
use Rattle.std.proofs.Common.{◌≡◌, ◌≢◌, ◌⊎◌, ℕ, Bool, true, false, not, cond, ◌==◌, List, [], ◌∷◌, ◌++◌, refl, ap, arith, inl, inr, eq-eqb}
use Rattle.std.proofs.lemmas.Bool.Decides.{nat_tests}
use mathlib.Core.Logic.{dite}
use native.Mathlib.Decide.{ℕ_discrete}
use Rattle.cohort_queue.specs.Numbers.{times, IsIn, IsNotIn, without}
use Rattle.cohort_queue.proofs.Counted.{hits, times_cons, times_push}

-- a list without a number that is not in it
without_step : (x y : ℕ) (ys : List ℕ) (b : Bool) → (y == x) ≡ b → hits y x ≡ 0 → without x ys ≡ ys
    → cond (not b) (y ∷ without x ys) (without x ys) ≡ y ∷ ys
without_step x y ys true e none same = absurd (let one : hits y x ≡ 1 = ap (λ (b : Bool). cond b 1 0) e in omega (arith, one, none))
without_step x y ys false e none same = ap (λ (l : List ℕ). y ∷ l) same

pub without_none : (x : ℕ) (ys : List ℕ) → IsNotIn x ys → without x ys ≡ ys
without_none x [] none = refl
without_none x (y ∷ ys) none =
    let c = times_cons x y ys in
    let here : hits y x ≡ 0 = omega (arith, c, none) in
    let behind : times x ys ≡ 0 = omega (arith, c, none) in without_step x y ys (y == x) refl here (without_none x ys behind)

last_step : (x y : ℕ) (ys rest : List ℕ) (b : Bool) → (y == x) ≡ b → hits y x ≡ 0 → rest ≡ ys → cond (not b) (y ∷ rest) rest ≡ y ∷ ys
last_step x y ys rest true e none same = absurd (let one : hits y x ≡ 1 = ap (λ (b : Bool). cond b 1 0) e in omega (arith, one, none))
last_step x y ys rest false e none same = ap (λ (l : List ℕ). y ∷ l) same

-- and without the last one, which is not in it before
pub without_last : (x : ℕ) (ys : List ℕ) → IsNotIn x ys → without x (ys ++ x ∷ []) ≡ ys
without_last x [] none = ap (λ (b : Bool). cond (not b) (x ∷ []) []) (eq-eqb x x refl)
without_last x (y ∷ ys) none =
    let c = times_cons x y ys in
    let here : hits y x ≡ 0 = omega (arith, c, none) in
    let behind : times x ys ≡ 0 = omega (arith, c, none) in
    last_step x y ys (without x (ys ++ x ∷ [])) (y == x) refl here (without_last x ys behind)

-- a number that is in a list with one more
pub in_longer : (x y : ℕ) (ys : List ℕ) → IsIn x (ys ++ y ∷ []) → IsIn x ys ⊎ (x ≡ y)
in_longer x y ys is = dite (ℕ_discrete x y) (λ same. inr same)
    (λ other. inl (let p = times_push x ys y in let none : hits y x ≡ 0 = grind (arith, nat_tests) in omega (arith, p, none, is)))

pub in_last : (x : ℕ) (ys : List ℕ) → IsIn x (ys ++ x ∷ [])
in_last x ys = let p = times_push x ys x in let one : hits x x ≡ 1 = grind (arith, nat_tests) in omega (arith, p, one)

pub in_more : (x y : ℕ) (ys : List ℕ) → IsIn x ys → IsIn x (ys ++ y ∷ [])
in_more x y ys is = let p = times_push x ys y in omega (arith, p, is)

pub not_last : (x y : ℕ) (ys : List ℕ) → IsNotIn x ys → x ≢ y → IsNotIn x (ys ++ y ∷ [])
not_last x y ys none other =
    let p = times_push x ys y in let zero_hits : hits y x ≡ 0 = grind (arith, nat_tests) in omega (arith, p, zero_hits, none)
