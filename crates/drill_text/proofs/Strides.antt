-- The numbers below another that leave a rest, one stride after the other.
use Rattle.std.proofs.Common.{
  ◌≡◌,
  ℕ,
  zero,
  suc,
  ◌+◌,
  ◌-◌,
  ◌%◌,
  ◌<◌,
  ◌≤◌,
  Bool,
  false,
  true,
  cond,
  List,
  [],
  ◌∷◌,
  ◌++◌,
  refl,
  sym,
  ap,
  ◌∙◌,
  arith,
}
use Rattle.std.specs.Prelude.{filter, ◌==◌}
use Rattle.std.specs.List.{range_with_len}
use Rattle.std.proofs.lemmas.Bool.{eq-eqb, ne_eqb}
use Rattle.std.proofs.lemmas.List.{append-nil}
use Rattle.std.proofs.lemmas.List.Elements.{filter-append}
use Rattle.drill_text.proofs.Numbers.{below_more}

-- one number more
one_more : (p : ℕ → Bool) (n : ℕ)
    → filter p (range_with_len 0 (n + 1)) ≡ filter p (range_with_len 0 n) ++ cond (p n) (n ∷ []) []
one_more p n = ap (filter p) (below_more n) ∙ filter-append p (range_with_len 0 n) (n ∷ [])

-- numbers that fail the test change nothing
gap : (p : ℕ → Bool) (n t : ℕ) → ((x : ℕ) → n ≤ x → x < n + t → p x ≡ false)
    → filter p (range_with_len 0 (n + t)) ≡ filter p (range_with_len 0 n)
gap p n zero fails = let same : n + 0 ≡ n = omega arith in ap (λ (k : ℕ). filter p (range_with_len 0 k)) same
gap p n (suc t) fails =
    let same : n + suc t ≡ n + t + 1 = omega arith in
    ap (λ (k : ℕ). filter p (range_with_len 0 k)) same
    ∙ one_more p (n + t)
    ∙ ap (λ b. filter p (range_with_len 0 (n + t)) ++ cond b ((n + t) ∷ []) []) (fails (n + t) (omega arith) (omega arith))
    ∙ append-nil (filter p (range_with_len 0 (n + t)))
    ∙ gap p n t (λ x low high. fails x low (omega (arith, high)))

-- those with this rest
abbrev pub with_rest : ℕ → ℕ → List ℕ
with_rest rest n = filter (λ j. j % 64 == rest) (range_with_len 0 n)

pub first_stride : (rest : ℕ) → rest < 64 → with_rest rest rest ≡ []
first_stride rest small =
    let same : rest ≡ 0 + rest = omega arith in
    ap (with_rest rest) same
    ∙ gap (λ (j : ℕ). j % 64 == rest) 0 rest (λ x low high. ne_eqb (x % 64) rest (λ is. omega (arith, is, small, high)))

pub next_stride : (rest m : ℕ) → m % 64 ≡ rest → with_rest rest (m + 64) ≡ with_rest rest m ++ m ∷ []
next_stride rest m is =
    let same : m + 64 ≡ m + 1 + 63 = omega arith in
    ap (with_rest rest) same
    ∙ gap (λ (j : ℕ). j % 64 == rest) (m + 1) 63 (λ x low high. ne_eqb (x % 64) rest (λ other. omega (arith, is, other, low, high)))
    ∙ one_more (λ (j : ℕ). j % 64 == rest) m
    ∙ ap (λ b. with_rest rest m ++ cond b (m ∷ []) []) (eq-eqb (m % 64) rest is)

pub last_stride : (rest m end : ℕ) → m % 64 ≡ rest → end ≤ m → m < end + 64 → with_rest rest m ≡ with_rest rest end
last_stride rest m end is low high =
    let same : m ≡ end + (m - end) = omega (arith, low) in
    ap (with_rest rest) same
    ∙ gap (λ (j : ℕ). j % 64 == rest) end (m - end)
    (λ x above below. ne_eqb (x % 64) rest (λ other. omega (arith, is, other, low, high, above, below)))
