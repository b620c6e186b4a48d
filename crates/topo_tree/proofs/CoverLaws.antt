-- Laws of the sets of PUs that stand side by side.
use Rattle.std.proofs.Common.{
  ◌≡◌,
  ◌≢◌,
  ℕ,
  zero,
  suc,
  ◌+◌,
  ◌-◌,
  ◌<◌,
  ◌≤◌,
  Bool,
  true,
  false,
  ◌||◌,
  ◌&&◌,
  ◌==◌,
  cond,
  nat_lt,
  nat_le,
  List,
  [],
  ◌∷◌,
  ◌++◌,
  length,
  take,
  drop,
  get_or,
  slice_index,
  slice_range,
  refl,
  sym,
  ap,
  ◌∙◌,
  inl,
  inr,
  arith,
}
use Rattle.std.specs.List.{range_with_len, filter}
use Rattle.std.proofs.lemmas.Bool.{
  cases_lt,
  false≢true,
  eq-eqb,
  ne_eqb,
  eqb-true,
  leb-true,
  ltb-true,
  le-leb,
  lt-ltb,
  le-ltb,
  lt-leb,
  leb-false,
  and_parts,
  and_from,
  and_left,
  and_right,
  or_left,
  or_right,
  or_cases,
  or_parts,
  false_from_ne_true as false_unless,
}
use Rattle.std.proofs.lemmas.List.{get_or-drop, length-drop, take_more}
use Rattle.cpu_set.specs.Sets.{has, numbers_below}
use Rattle.cpu_set.specs.Tests.{meets, is_inside}
use Rattle.cpu_set.proofs.TestLaws.{same_tests, passes-has, inside-at, inside-by, meets-none}
use Rattle.cpu_set.specs.SetLaws.{has-numbers_below}
use Rattle.topo_tree.specs.Numbers.{is_bad}
use Rattle.topo_tree.proofs.Covered.{AreGood, set_between}

-- ---- what the front of a list has

pub take_has : (xs : List ℕ) (m k : ℕ) → k < m → k < length xs → has (take m xs) (get_or xs k 0) ≡ true
take_has [] m k below within = absurd (omega arith)
take_has (x ∷ xs) zero k below within = absurd (omega arith)
take_has (x ∷ xs) (suc m) zero below within = or_left (x == x) (has (take m xs) x) (eq-eqb x x refl)
take_has (x ∷ xs) (suc m) (suc k) below within =
    or_right (x == get_or xs k 0) (has (take m xs) (get_or xs k 0)) (take_has xs m k (omega arith) (omega arith))

pub has_take : (xs : List ℕ) (m n : ℕ) → has (take m xs) n ≡ true → (k : ℕ) × (k < m) × (k < length xs) × (get_or xs k 0 ≡ n)
has_take [] zero n found = absurd (false≢true found)
has_take [] (suc m) n found = absurd (false≢true found)
has_take (x ∷ xs) zero n found = absurd (false≢true found)
has_take (x ∷ xs) (suc m) n found =
    elim (or_cases (x == n) (has (take m xs) n) found) [
      | inl here ↦ (0, omega arith, omega arith, eqb-true x n here)
      | inr later ↦ let at = has_take xs m n later in (suc at.0, omega (arith, at.1), omega (arith, at.2), at.3)
    ]

-- ---- good numbers

good_parts : (numbers : List ℕ) (k : ℕ) → is_bad numbers k ≡ false → (slice_index numbers k < 4096)
    × (has (take k numbers) (slice_index numbers k) ≡ false)
good_parts numbers k good =
    let parts = or_parts (nat_le 4096 (slice_index numbers k)) (has (take k numbers) (slice_index numbers k)) good in
    (leb-false 4096 (slice_index numbers k) parts.0, parts.1)

pub low_number : (numbers : List ℕ) (k : ℕ) → AreGood numbers → k < length numbers → get_or numbers k 0 < 4096
low_number numbers k good within = (good_parts numbers k (good k within)).0

differ : (numbers : List ℕ) (j k : ℕ) → AreGood numbers → k < length numbers → j < k → get_or numbers j 0 ≢ get_or numbers k 0
differ numbers j k good within before same =
    false≢true (sym (good_parts numbers k (good k within)).1 ∙ ap (has (take k numbers)) (sym same)
    ∙ take_has numbers k j before (omega arith))

pub same_place : (numbers : List ℕ) (j k : ℕ) → AreGood numbers → j < length numbers → k < length numbers
    → get_or numbers j 0 ≡ get_or numbers k 0 → j ≡ k
same_place numbers j k good j_in k_in same =
    elim (cases_lt j k) [
      | inl before ↦ absurd (differ numbers j k good k_in before same)
      | inr not_before ↦ elim (cases_lt k j) [
        | inl behind ↦ absurd (differ numbers k j good j_in behind (sym same))
        | inr not_behind ↦ omega arith
      ]
    ]

-- ---- which numbers a set has

-- a number of the set is that of a PU within its positions
pub between-has : (numbers : List ℕ) (from to n : ℕ) → has (set_between numbers from to) n ≡ true → (k : ℕ) × (from ≤ k) × (k < to)
    × (k < length numbers) × (get_or numbers k 0 ≡ n)
unfolding set_between
between-has numbers from to n found =
    let at = has_take (drop from numbers) (to - from) n (passes-has (has (slice_range numbers from to)) n found).1 in
    let long = length-drop from numbers in
    (from + at.0, omega arith, omega (arith, at.1), omega (arith, at.2, long), sym (get_or-drop from numbers at.0 0) ∙ at.3)

pub has-between : (numbers : List ℕ) (from to k : ℕ) → AreGood numbers → k < length numbers → from ≤ k → k < to
    → has (set_between numbers from to) (get_or numbers k 0) ≡ true
unfolding set_between
has-between numbers from to k good within low high =
    let place : from + (k - from) ≡ k = omega arith in
    let number = get_or-drop from numbers (k - from) 0 ∙ ap (λ p. get_or numbers p 0) place in
    has-numbers_below 4096 (has (slice_range numbers from to)) (get_or numbers k 0) (low_number numbers k good within)
    ∙ ap (has (slice_range numbers from to)) (sym number)
    ∙ take_has (drop from numbers) (to - from) (k - from) (omega arith) (omega (arith, length-drop from numbers))

-- the set has the number of a PU exactly where that stands within its positions
pub has-between-is : (numbers : List ℕ) (from to k : ℕ) → AreGood numbers → k < length numbers
    → has (set_between numbers from to) (get_or numbers k 0) ≡ (nat_le from k && nat_lt k to)
has-between-is numbers from to k good within =
    same_tests (has (set_between numbers from to) (get_or numbers k 0)) (nat_le from k && nat_lt k to)
    (λ found.
    let at = between-has numbers from to (get_or numbers k 0) found in
    let same : at.0 ≡ k = same_place numbers at.0 k good at.3 within at.4 in
    and_from (nat_le from k) (nat_lt k to) (le-leb from k (omega (arith, at.1, same))) (lt-ltb k to (omega (arith, at.2, same))))
    (λ test.
    let parts = and_parts (nat_le from k) (nat_lt k to) test in
    has-between numbers from to k good within (leb-true from k parts.0) (ltb-true k to parts.1))

-- ---- one set inside another, by positions

pub between-inside : (numbers : List ℕ) (from to low high : ℕ) → AreGood numbers → from < to → to ≤ length numbers
    → is_inside (set_between numbers from to) (set_between numbers low high) ≡ (nat_le low from && nat_le to high)
between-inside numbers from to low high good some within =
    same_tests (is_inside (set_between numbers from to) (set_between numbers low high)) (nat_le low from && nat_le to high)
    (λ inside.
    let first = inside-at (set_between numbers from to) (set_between numbers low high) (get_or numbers from 0) inside
    (has-between numbers from to from good (omega arith) (omega arith) some) in
    let last = inside-at (set_between numbers from to) (set_between numbers low high) (get_or numbers (to - 1) 0) inside
    (has-between numbers from to (to - 1) good (omega arith) (omega arith) (omega arith)) in
    let first_at = and_parts (nat_le low from) (nat_lt from high) (sym (has-between-is numbers low high from good (omega arith)) ∙ first) in
    let last_at = and_parts (nat_le low (to - 1)) (nat_lt (to - 1) high)
    (sym (has-between-is numbers low high (to - 1) good (omega arith)) ∙ last) in
    and_from (nat_le low from) (nat_le to high) first_at.0 (le-leb to high (omega (arith, ltb-true (to - 1) high last_at.1))))
    (λ test.
    let parts = and_parts (nat_le low from) (nat_le to high) test in
    let low_from = leb-true low from parts.0 in
    let to_high = leb-true to high parts.1 in
    inside-by (set_between numbers from to) (set_between numbers low high) (λ n found.
    let at = between-has numbers from to n found in
    ap (has (set_between numbers low high)) (sym at.4)
    ∙ has-between numbers low high at.0 good at.3 (omega (arith, at.1)) (omega (arith, at.2))))

-- sets of positions that are apart are disjoint
pub between-apart : (numbers : List ℕ) (from to low high : ℕ) → AreGood numbers → to ≤ low
    → meets (set_between numbers from to) (set_between numbers low high) ≡ false
between-apart numbers from to low high good before =
    meets-none (set_between numbers from to) (set_between numbers low high) (λ n found.
    let at = between-has numbers from to n found in
    ap (has (set_between numbers low high)) (sym at.4) ∙ has-between-is numbers low high at.0 good at.3
    ∙ and_left (nat_le low at.0) (nat_lt at.0 high) (lt-leb low at.0 (omega (arith, at.2))))

pub between-behind : (numbers : List ℕ) (from to low high : ℕ) → AreGood numbers → high ≤ from
    → meets (set_between numbers from to) (set_between numbers low high) ≡ false
between-behind numbers from to low high good behind =
    meets-none (set_between numbers from to) (set_between numbers low high) (λ n found.
    let at = between-has numbers from to n found in
    ap (has (set_between numbers low high)) (sym at.4) ∙ has-between-is numbers low high at.0 good at.3
    ∙ and_right (nat_le low at.0) (nat_lt at.0 high) (le-ltb at.0 high (omega (arith, at.1))))

-- ---- how many numbers a set has

or_no : (b : Bool) → (b || false) ≡ b
or_no true = refl
or_no false = refl

cons_alike : (b : Bool) (x : ℕ) (xs ys : List ℕ) → length xs ≡ length ys → length (cond b (x ∷ xs) xs) ≡ length (cond b (x ∷ ys) ys)
cons_alike true x xs ys same = omega arith
cons_alike false x xs ys same = same

cons_more : (b : Bool) (x : ℕ) (xs ys : List ℕ) → length xs ≡ length ys + 1 → length (cond b (x ∷ xs) xs) ≡ length (cond b (x ∷ ys) ys) + 1
cons_more true x xs ys more = omega arith
cons_more false x xs ys more = more

cons_one : (new old : Bool) (x : ℕ) (xs ys : List ℕ) → new ≡ true → old ≡ false → length xs ≡ length ys
    → length (cond new (x ∷ xs) xs) ≡ length (cond old (x ∷ ys) ys) + 1
cons_one true true x xs ys is_new is_old same = absurd (false≢true (sym is_old))
cons_one true false x xs ys is_new is_old same = omega arith
cons_one false old x xs ys is_new is_old same = absurd (false≢true is_new)

module _ (old new : ℕ → Bool) (y : ℕ) (more : (n : ℕ) → new n ≡ (old n || (y == n))) (absent : old y ≡ false) where
  same_off : (n : ℕ) → y ≢ n → new n ≡ old n
  same_off n other = more n ∙ ap (λ b. old n || b) (ne_eqb y n other) ∙ or_no (old n)

  abbrev kept : (ℕ → Bool) → ℕ → ℕ → List ℕ
  kept test start count = filter test (range_with_len start count)

  kept_above : (start count : ℕ) → y < start → length (kept new start count) ≡ length (kept old start count)
  kept_above start zero above = refl
  kept_above start (suc count) above =
      ap (λ b. length (cond b (start ∷ kept new (start + 1) count) (kept new (start + 1) count)))
      (same_off start (λ same. absurd (omega arith)))
      ∙ cons_alike (old start) start (kept new (start + 1) count) (kept old (start + 1) count) (kept_above (start + 1) count (omega arith))

  one_more : (start count : ℕ) → start ≤ y → y < start + count → length (kept new start count) ≡ length (kept old start count) + 1
  one_more start zero low high = absurd (omega arith)
  one_more start (suc count) low high =
      elim (cases_lt start y) [
        | inl before ↦
            ap (λ b. length (cond b (start ∷ kept new (start + 1) count) (kept new (start + 1) count)))
            (same_off start (λ same. absurd (omega arith)))
            ∙ cons_more (old start) start (kept new (start + 1) count) (kept old (start + 1) count)
            (one_more (start + 1) count (omega arith) (omega arith))
        | inr here ↦
            let same : y ≡ start = omega arith in
            cons_one (new start) (old start) start (kept new (start + 1) count) (kept old (start + 1) count)
            (more start ∙ or_right (old start) (y == start) (eq-eqb y start same)) (ap old (sym same) ∙ absent)
            (kept_above (start + 1) count (omega arith))
      ]

has_push : (xs : List ℕ) (y n : ℕ) → has (xs ++ y ∷ []) n ≡ (has xs n || (y == n))
has_push [] y n = or_no (y == n)
has_push (x ∷ xs) y n = ap (λ b. (x == n) || b) (has_push xs y n) ∙ or_regroup (x == n) (has xs n) (y == n)
  where
    or_regroup : (a b c : Bool) → (a || (b || c)) ≡ ((a || b) || c)
    or_regroup true b c = refl
    or_regroup false b c = refl

pub length-set_between : (numbers : List ℕ) (from count : ℕ) → AreGood numbers → from + count ≤ length numbers
    → length (set_between numbers from (from + count)) ≡ count
unfolding set_between numbers_below
length-set_between numbers from zero good within =
    let none : (from + zero) - from ≡ 0 = omega arith in
    ap (λ m. length (filter (has (take m (drop from numbers))) (range_with_len 0 4096))) none ∙ none_pass 0 4096
  where
    none_pass : (start count : ℕ) → length (filter (has []) (range_with_len start count)) ≡ 0
    none_pass start zero = refl
    none_pass start (suc count) = none_pass (start + 1) count
length-set_between numbers from (suc count) good within =
    let shorter : (from + count) - from ≡ count = omega arith in
    let longer : (from + suc count) - from ≡ count + 1 = omega arith in
    let y = get_or numbers (from + count) 0 in
    let long = length-drop from numbers in
    let pushed : take (count + 1) (drop from numbers) ≡ take count (drop from numbers) ++ y ∷ [] =
    take_more (drop from numbers) count 0 (omega arith)
    ∙ ap (λ n. take count (drop from numbers) ++ n ∷ []) (get_or-drop from numbers count 0) in
    let absent : has (take count (drop from numbers)) y ≡ false = false_unless (has (take count (drop from numbers)) y) (λ found.
    let at = has_take (drop from numbers) count y found in
    let place : from + at.0 ≡ from + count =
    same_place numbers (from + at.0) (from + count) good (omega (arith, at.2, long)) (omega arith)
    (sym (get_or-drop from numbers at.0 0) ∙ at.3) in
    omega (arith, place, at.1)) in
    ap (λ m. length (filter (has (take m (drop from numbers))) (range_with_len 0 4096))) longer
    ∙ one_more (has (take count (drop from numbers))) (has (take (count + 1) (drop from numbers))) y
    (λ n. ap (λ xs. has xs n) pushed ∙ has_push (take count (drop from numbers)) y n) absent
    0 4096 (omega arith) (omega (arith, low_number numbers (from + count) good (omega arith)))
    ∙ ap (λ m. length (filter (has (take m (drop from numbers))) (range_with_len 0 4096)) + 1) (sym shorter)
    ∙ ap (λ n. n + 1) (length-set_between numbers from count good (omega arith))
    ∙ omega arith
