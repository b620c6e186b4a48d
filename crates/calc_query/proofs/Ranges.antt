-- Ranges of numbers: one more, and those that a test keeps.
use Rattle.std.proofs.Common.{◌≡◌, ℕ, zero, suc, ◌+◌, ◌-◌, ◌<◌, ◌≤◌, max, Bool, true, false, cond, ◌||◌, ◌&&◌, nat_lt, nat_le, []}
use Rattle.std.proofs.Common.{◌∷◌, ◌++◌, refl, sym, ap, ◌∙◌, inl, inr, arith}
use Rattle.std.specs.List.{range_with_len, filter, list_any}
use Rattle.std.proofs.lemmas.Bool.{cases_lt, le-leb, lt-leb, lt-ltb, le-ltb, and_from, and_left, and_right}
use Rattle.std.proofs.lemmas.List.Folds.{list_any-append}

or_none : (b : Bool) → (b || false) ≡ b
or_none true = refl
or_none false = refl

pub range_push : (start count : ℕ) → range_with_len start (count + 1) ≡ range_with_len start count ++ (start + count) ∷ []
range_push start zero =
    let one : zero + 1 ≡ suc zero = omega arith in
    let here : start ≡ start + zero = omega arith in
    ap (range_with_len start) one ∙ ap (λ n. n ∷ []) here
range_push start (suc count) =
    let more : suc count + 1 ≡ suc (count + 1) = omega arith in
    let last : (start + 1) + count ≡ start + suc count = omega arith in
    ap (range_with_len start) more ∙ ap (λ rest. start ∷ rest) (range_push (start + 1) count)
    ∙ ap (λ n. start ∷ (range_with_len (start + 1) count ++ n ∷ [])) last

pub any_more : (test : ℕ → Bool) (count : ℕ)
    → list_any test (range_with_len 0 (count + 1)) ≡ (list_any test (range_with_len 0 count) || test count)
any_more test count =
    let last : 0 + count ≡ count = omega arith in
    ap (list_any test) (range_push 0 count) ∙ list_any-append test (range_with_len 0 count) ((0 + count) ∷ [])
    ∙ ap (λ b. list_any test (range_with_len 0 count) || b) (or_none (test (0 + count)) ∙ ap test last)

-- a filter that keeps what stands from one number up to another keeps a range
pub filter_run : (test : ℕ → Bool) (low high start count : ℕ)
    → ((n : ℕ) → start ≤ n → n < start + count → test n ≡ (nat_le low n && nat_lt n high)) → high ≤ start + count
    → filter test (range_with_len start count) ≡ range_with_len (max low start) (high - max low start)
filter_run test low high start zero each within =
    let none : high - max low start ≡ 0 = omega arith in
    sym (ap (range_with_len (max low start)) none)
filter_run test low high start (suc count) each within =
    let rest = filter test (range_with_len (start + 1) count) in
    let further = filter_run test low high (start + 1) count (λ n from to. each n (omega arith) (omega arith)) (omega arith) in
    let here = each start (omega arith) (omega arith) in
    elim (cases_lt start low) [
      | inl before ↦
          let fails : test start ≡ false = here ∙ and_left (nat_le low start) (nat_lt start high) (lt-leb low start before) in
          let same : max low (start + 1) ≡ max low start = omega arith in
          ap (λ b. cond b (start ∷ rest) rest) fails ∙ further ∙ ap (λ n. range_with_len n (high - n)) same
      | inr from ↦ elim (cases_lt start high) [
        | inl inside ↦
            let passes : test start ≡ true = here ∙ and_from (nat_le low start) (nat_lt start high) (le-leb low start from)
            (lt-ltb start high inside) in
            let next : max low (start + 1) ≡ start + 1 = omega arith in
            let first : start ≡ max low start = omega arith in
            let more : suc (high - (start + 1)) ≡ high - start = omega arith in
            ap (λ b. cond b (start ∷ rest) rest) passes ∙ ap (λ ns. start ∷ ns) (further ∙ ap (λ n. range_with_len n (high - n)) next)
            ∙ ap (range_with_len start) more ∙ ap (λ n. range_with_len n (high - n)) first
        | inr past ↦
            let fails : test start ≡ false = here ∙ and_right (nat_le low start) (nat_lt start high) (le-ltb start high past) in
            let none : high - max low (start + 1) ≡ 0 = omega arith in
            let also : high - max low start ≡ 0 = omega arith in
            ap (λ b. cond b (start ∷ rest) rest) fails ∙ further ∙ ap (range_with_len (max low (start + 1))) none
            ∙ sym (ap (range_with_len (max low start)) also)
      ]
    ]
