-- How often callers stand in lists and tallies.
use Rattle.std.proofs.Common.{◌≡◌, ◌≢◌, ℕ, suc, ◌+◌, ◌*◌, ◌<◌, ◌≤◌, Bool, true, cond, ◌&&◌, List, [], ◌∷◌, ◌++◌, map, length, get_or}
use Rattle.std.proofs.Common.{nat_le, nat_lt, ◌==◌, eq-eqb, ne_eqb, refl, ap, sym, ◌∙◌, subst, arith}
use Rattle.std.specs.Prelude.{slice_index, sum, replicate, All}
use Rattle.std.specs.List.{count_by, enumerate_from}
use Rattle.std.proofs.lemmas.List.Sums.{sum_by-cons, sum_by-append}
use Rattle.std.proofs.lemmas.List.Folds.{sum_by-replicate}
use Rattle.std.proofs.lemmas.List.Elements.{All-cons, All-head, All-tail}
use Rattle.std.proofs.lemmas.Bool.Decides.{nat_tests}
use Rattle.keep_local.specs.declared.view.Tally.{Tally}
use Rattle.keep_local.specs.Views.{times, new_tally, first_alone, behind_first}

abbrev pub one_if : Bool → ℕ
one_if b = cond b 1 0

-- so many more turns of one caller
times_more : (k : ℕ) (xs : List ℕ) (x n : ℕ) → times k (xs ++ replicate n x) ≡ times k xs + n * one_if (x == k)
times_more k xs x n =
    let f : ℕ → ℕ = λ y. one_if (y == k) in
    sum_by-append f xs (replicate n x) ∙ ap (λ (m : ℕ). times k xs + m) (sum_by-replicate f n x)

pub times_own : (k : ℕ) (xs : List ℕ) (x n : ℕ) → x ≡ k → times k (xs ++ replicate n x) ≡ times k xs + n
times_own k xs x n e = let p = times_more k xs x n in
    let q : n * one_if (x == k) ≡ n * 1 = ap (λ (b : Bool). n * one_if b) (eq-eqb x k e) in
    omega (arith, p, q)

pub times_others : (k : ℕ) (xs : List ℕ) (x n : ℕ) → x ≢ k → times k (xs ++ replicate n x) ≡ times k xs
times_others k xs x n ne = let p = times_more k xs x n in
    let q : n * one_if (x == k) ≡ n * 0 = ap (λ (b : Bool). n * one_if b) (ne_eqb x k ne) in
    omega (arith, p, q)

-- the callers from a number on are those of this number and those behind it
abbrev from : ℕ → List ℕ → ℕ
from k xs = count_by (λ x. nat_le k x) xs

from_next : (k : ℕ) (xs : List ℕ) → from k xs ≡ times k xs + from (k + 1) xs
from_next k [] = refl
from_next k (x ∷ xs) =
    let a = sum_by-cons (λ (y : ℕ). one_if (nat_le k y)) x xs in
    let b = sum_by-cons (λ (y : ℕ). one_if (y == k)) x xs in
    let c = sum_by-cons (λ (y : ℕ). one_if (nat_le (k + 1) y)) x xs in
    let d : one_if (nat_le k x) ≡ one_if (x == k) + one_if (nat_le (k + 1) x) = grind (arith, nat_tests) in
    let r = from_next k xs in
    omega (arith, a, b, c, d, r)

from_past : (k : ℕ) (xs : List ℕ) → All (λ x. x < k) xs → from k xs ≡ 0
from_past k [] h = refl
from_past k (x ∷ xs) h =
    let a = sum_by-cons (λ (y : ℕ). one_if (nat_le k y)) x xs in
    let x_below : x < k = All-head (λ (y : ℕ). y < k) x xs h in
    let d : one_if (nat_le k x) ≡ 0 = grind (arith, nat_tests) in
    let r = from_past k xs (All-tail (λ (y : ℕ). y < k) x xs h) in
    omega (arith, a, d, r)

from_zero : (xs : List ℕ) → from 0 xs ≡ length xs
from_zero [] = refl
from_zero (x ∷ xs) = let a = sum_by-cons (λ (y : ℕ). one_if (nat_le 0 y)) x xs in
    let d : one_if (nat_le 0 x) ≡ 1 = grind (arith, nat_tests) in omega (arith, a, d, from_zero xs)

fit_from : (k : ℕ) (quotas callers : List ℕ) → All (λ x. x < k + length quotas) callers
    → ((i : ℕ) → i < length quotas → times (k + i) callers ≤ slice_index quotas i) → from k callers ≤ sum quotas
fit_from k [] callers known within =
    let none : All (λ x. x < k) callers = λ i d h. let p : get_or callers i d < k + 0 = known i d h in omega arith in
    let p = from_past k callers none in
    omega (arith, p)
fit_from k (q ∷ quotas) callers known within =
    let zero_more : k + 0 ≡ k = omega arith in
    let here : times k callers ≤ q = subst (λ (n : ℕ). times n callers ≤ q) zero_more (within 0 (omega arith)) in
    let later : from (k + 1) callers ≤ sum quotas = fit_from (k + 1) quotas callers
    (λ i d h. let p : get_or callers i d < k + length (q ∷ quotas) = known i d h in omega arith)
    (λ i h. let p : times (k + suc i) callers ≤ slice_index quotas i = within (suc i) (omega arith) in
    let e : k + suc i ≡ k + 1 + i = omega arith in rw (← e) p) in
    let s = sum_by-cons (λ (x : ℕ). x) q quotas in
    omega (arith, here, later, s, from_next k callers)

-- where no caller has more turns than its quota, there are no more turns than the quotas add up to
pub turns_fit : (quotas callers : List ℕ) → All (λ x. x < length quotas) callers
    → ((k : ℕ) → k < length quotas → times k callers ≤ slice_index quotas k) → length callers ≤ sum quotas
turns_fit quotas callers known within =
    let all : from 0 callers ≤ sum quotas =
    fit_from 0 quotas callers (λ i d h. let p : get_or callers i d < length quotas = known i d h in
    omega arith) (λ i h. let e : 0 + i ≡ i = omega arith in rw e (within i h)) in
    omega (arith, all, from_zero callers)

-- how often a number is that of a tally
abbrev pub tallied : ℕ → List Tally → ℕ
tallied k ts = count_by (λ t. t.caller == k) ts

pub tallied-cons : (k : ℕ) (t : Tally) (ts : List Tally) → tallied k (t ∷ ts) ≡ one_if (t.caller == k) + tallied k ts
tallied-cons k t ts = sum_by-cons (λ (u : Tally). one_if (u.caller == k)) t ts

pub tallied-append : (k : ℕ) (ts us : List Tally) → tallied k (ts ++ us) ≡ tallied k ts + tallied k us
tallied-append k ts us = sum_by-append (λ (u : Tally). one_if (u.caller == k)) ts us

-- a cut leaves all tallies
pub tallied_cut : (k : ℕ) (ts : List Tally) → tallied k ts ≡ tallied k (behind_first ts) + tallied k (first_alone ts)
tallied_cut k [] = refl
tallied_cut k (t ∷ ts) = omega (arith, tallied-cons k t ts, tallied-cons k t [])

-- no tally has the number
pub none_tallied : (k : ℕ) (ts : List Tally) → tallied k ts ≡ 0 → All (λ t. t.caller ≢ k) ts
none_tallied k [] e = λ i d h. absurd (omega arith)
none_tallied k (t ∷ ts) e =
    let p = tallied-cons k t ts in
    All-cons (λ (u : Tally). u.caller ≢ k) t ts
    (λ same. let b : (t.caller == k) ≡ true = eq-eqb t.caller k same in let q : one_if (t.caller == k) ≡ 1 = ap one_if b in
    omega (arith, p, q, e))
    (none_tallied k ts (omega (arith, p, e)))

-- the callers who have made no turn have each number in a span once
pub span_tallied : (k from : ℕ) (quotas : List ℕ)
    → tallied k (map new_tally (enumerate_from from quotas)) ≡ one_if (nat_le from k && nat_lt k (from + length quotas))
span_tallied k from [] = let d : one_if (nat_le from k && nat_lt k (from + 0)) ≡ 0 = grind (arith, nat_tests) in sym d
span_tallied k from (q ∷ quotas) =
    let p = tallied-cons k (new_tally (from, q)) (map new_tally (enumerate_from (from + 1) quotas)) in
    let r = span_tallied k (from + 1) quotas in
    let n : ℕ = length quotas in
    let d : one_if (nat_le from k && nat_lt k (from + suc n)) ≡ one_if (from == k) + one_if
    (nat_le (from + 1) k && nat_lt k (from + 1 + n)) = grind (arith, nat_tests) in
    omega (arith, p, r, d)
