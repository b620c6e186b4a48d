-- Laws of sets: which numbers a set has, and that its numbers fix it.
use Rattle.std.proofs.Common.{
  ◌≡◌,
  ◌≢◌,
  ℕ,
  zero,
  suc,
  ◌+◌,
  ◌<◌,
  ◌≤◌,
  Bool,
  true,
  false,
  ◌&&◌,
  ◌==◌,
  List,
  [],
  ◌∷◌,
  length,
  get_or,
  refl,
  sym,
  ap,
  ◌∙◌,
  arith,
  ◌⊎◌,
  inl,
  inr,
}
use Rattle.std.proofs.Math.Numerals.{add-one}
use Rattle.std.specs.Bool.{Decides}
use Rattle.std.specs.List.{All, Contains, filter, range_with_len, AllByRecursion}
use Rattle.std.specs.List.Sorted.{IsStrictlyIncreasing}
use Rattle.std.proofs.lemmas.Bool.{cases_lt, and_left}
use Rattle.std.proofs.lemmas.Bool.Decides.{nat_tests, Decides-eqb, Decides-by_or}
use Rattle.std.proofs.lemmas.List.Elements.{All-filter, All-from_get_or, recursion_from_All, Decides-contains}
use Rattle.std.proofs.lemmas.List.FromFn.{length-range_with_len, get_or-range_with_len}
use Rattle.std.proofs.lemmas.List.Kept.{IsStrictlyIncreasing-filter}
use Rattle.cpu_set.specs.Sets.{has, numbers_below, numbers_where, IsSet}

-- ---- what a filtered range has

module _ (test : ℕ → Bool) where
  has-filter_cons : (x n : ℕ) (xs : List ℕ) → has (filter test xs) n ≡ (has xs n && test n)
      → has (filter test (x ∷ xs)) n ≡ (has (x ∷ xs) n && test n)
  has-filter_cons x n xs rest = grind (arith, nat_tests)

  pub has-filter : (xs : List ℕ) (n : ℕ) → has (filter test xs) n ≡ (has xs n && test n)
  has-filter [] n = refl
  has-filter (x ∷ xs) n = has-filter_cons x n xs (has-filter xs n)

pub has_later : (x n : ℕ) (xs : List ℕ) (b : Bool) → x ≢ n → has xs n ≡ b → has (x ∷ xs) n ≡ b
has_later x n xs b other rest = grind (arith, nat_tests)

pub has_first : (x n : ℕ) (xs : List ℕ) → x ≡ n → has (x ∷ xs) n ≡ true
has_first x n xs same = grind (arith, nat_tests)

has-range_in : (start count n : ℕ) → start ≤ n → n < start + count → has (range_with_len start count) n ≡ true
has-range_in start zero n low high = absurd (omega arith)
has-range_in start (suc count) n low high =
    elim (cases_lt start n) [
      | inl later ↦ has_later start n _ true (omega arith) (has-range_in (start + 1) count n (omega arith) (omega arith))
      | inr here ↦ has_first start n _ (omega arith)
    ]

has-range_out : (start count n : ℕ) → (n < start) ⊎ (start + count ≤ n) → has (range_with_len start count) n ≡ false
has-range_out start zero n out = refl
has-range_out start (suc count) n out =
    has_later start n _ false (omega arith)
    (has-range_out (start + 1) count n (elim out [ inl low ↦ inl (omega arith) | inr high ↦ inr (omega arith) ]))

and_true : (a b : Bool) → a ≡ true → (a && b) ≡ b
and_true a b h = rw h refl

pub has-numbers_below : (limit : ℕ) (test : ℕ → Bool) (n : ℕ) → n < limit → has (numbers_below limit test) n ≡ test n
unfolding numbers_below
has-numbers_below limit test n low =
    has-filter test (range_with_len 0 limit) n ∙ and_true _ _ (has-range_in 0 limit n (omega arith) (omega arith))

pub has-numbers_below_past : (limit : ℕ) (test : ℕ → Bool) (n : ℕ) → limit ≤ n → has (numbers_below limit test) n ≡ false
unfolding numbers_below
has-numbers_below_past limit test n high =
    has-filter test (range_with_len 0 limit) n ∙ and_left _ _ (has-range_out 0 limit n (inr (omega arith)))

-- ---- a filtered range ascends

range_ascends : (count : ℕ) → IsStrictlyIncreasing (range_with_len 0 count)
range_ascends count = λ k low.
    let long = length-range_with_len 0 count in
    omega (arith, get_or-range_with_len 0 count k 0 (omega arith), get_or-range_with_len 0 count (k + 1) 0 (omega arith))

range_below : (count : ℕ) → All (λ n. n < count) (range_with_len 0 count)
range_below count = All-from_get_or (λ n. n < count) (range_with_len 0 count) 0 (λ i low.
    let long = length-range_with_len 0 count in
    omega (arith, get_or-range_with_len 0 count i 0 (omega arith)))

pub numbers_below_ascends : (limit : ℕ) (test : ℕ → Bool) → IsStrictlyIncreasing (numbers_below limit test)
unfolding numbers_below
numbers_below_ascends limit test = IsStrictlyIncreasing-filter test _ (range_ascends limit)

pub numbers_below_within : (limit : ℕ) (test : ℕ → Bool) → All (λ n. n < limit) (numbers_below limit test)
unfolding numbers_below
numbers_below_within limit test = All-filter test (λ n. n < limit) _ (range_below limit)

pub IsSet-numbers_where : (test : ℕ → Bool) → IsSet (numbers_where test)
IsSet-numbers_where test = record { ascending = numbers_below_ascends 4096 test; below = numbers_below_within 4096 test }

-- ---- tests that agree give one set

filter_same : (one other : ℕ → Bool) (start count : ℕ) → ((n : ℕ) → start ≤ n → n < start + count → one n ≡ other n)
    → filter one (range_with_len start count) ≡ filter other (range_with_len start count)
filter_same one other start zero agree = refl
filter_same one other start (suc count) agree =
    let first = agree start (omega arith) (omega arith) in
    let rest = filter_same one other (start + 1) count (λ n low high. agree n (omega arith) (omega arith)) in cc

pub numbers_below-same : (limit : ℕ) (one other : ℕ → Bool) → ((n : ℕ) → n < limit → one n ≡ other n)
    → numbers_below limit one ≡ numbers_below limit other
unfolding numbers_below
numbers_below-same limit one other agree = filter_same one other 0 limit (λ n low high. agree n (omega arith))

-- ---- a set is what it has

-- the numbers ascend from low on
abbrev pub Rises : ℕ → List ℕ → Type 0
Rises low [] = Unit {0}
Rises low (x ∷ xs) = (low ≤ x) × Rises (x + 1) xs

get_or_next : (x : ℕ) (xs : List ℕ) (k : ℕ) → get_or (x ∷ xs) (k + 1) 0 ≡ get_or xs k 0
get_or_next x xs k = rw add-one refl

increasing_tail : (x : ℕ) (xs : List ℕ) → IsStrictlyIncreasing (x ∷ xs) → IsStrictlyIncreasing xs
increasing_tail x xs up = λ k within. omega (arith, up (k + 1) (omega arith), get_or_next x xs k, get_or_next x xs (k + 1))

pub Rises-from_increasing : (low : ℕ) (xs : List ℕ) → IsStrictlyIncreasing xs → (0 < length xs → low ≤ get_or xs 0 0) → Rises low xs
Rises-from_increasing low [] up least = tt
Rises-from_increasing low (x ∷ xs) up least = (
  least (omega arith),
  Rises-from_increasing (x + 1) xs (increasing_tail x xs up)
      (λ some. omega (arith, up 0 (omega arith), get_or_next x xs 0)),
)

Rises-lower : (low lower : ℕ) (xs : List ℕ) → lower ≤ low → Rises low xs → Rises lower xs
Rises-lower low lower [] less rises = tt
Rises-lower low lower (x ∷ xs) less rises = (omega (arith, rises.0), rises.1)

pub has_below : (low n : ℕ) (xs : List ℕ) → Rises low xs → n < low → has xs n ≡ false
has_below low n [] rises less = refl
has_below low n (x ∷ xs) rises less =
    has_later x n xs false (omega (arith, rises.0)) (has_below (x + 1) n xs rises.1 (omega (arith, rises.0)))

pub filter_out : (test : ℕ → Bool) (x : ℕ) (xs : List ℕ) → test x ≡ false → filter test (x ∷ xs) ≡ filter test xs
filter_out test x xs fails = rw fails refl

pub filter_in : (test : ℕ → Bool) (x : ℕ) (xs ys : List ℕ) → test x ≡ true → filter test xs ≡ ys → filter test (x ∷ xs) ≡ x ∷ ys
filter_in test x xs ys passes rest = rw passes (ap (λ zs. x ∷ zs) rest)

-- the range filtered by what the ascending list has is that list
filter-has : (start count limit : ℕ) (xs : List ℕ) → start + count ≡ limit → Rises start xs → AllByRecursion (λ n. n < limit) xs
    → filter (has xs) (range_with_len start count) ≡ xs
filter-has start zero limit [] to rises within = refl
filter-has start zero limit (x ∷ xs) to rises within = absurd (omega (arith, rises.0, within.0))
filter-has start (suc count) limit [] to rises within = filter-has (start + 1) count limit [] (omega arith) tt tt
filter-has start (suc count) limit (x ∷ xs) to rises within =
    elim (cases_lt start x) [
      | inl later ↦ filter_out (has (x ∷ xs)) start _ (has_below (start + 1) start (x ∷ xs) (omega arith, rises.1) (omega arith))
          ∙ filter-has (start + 1) count limit (x ∷ xs) (omega arith) (omega arith, rises.1) within
      | inr here ↦ let same : x ≡ start = omega (arith, rises.0) in
          filter_in (has (x ∷ xs)) start _ xs (has_first x start xs same)
          (filter_same (has (x ∷ xs)) (has xs) (start + 1) count (λ n low high. has_later x n xs (has xs n) (omega arith) refl)
          ∙ filter-has (start + 1) count limit xs (omega arith) (Rises-lower (x + 1) (start + 1) xs (omega arith) rises.1) within.1)
          ∙ ap (λ first. first ∷ xs) (sym same)
    ]

pub numbers_below-has : (limit : ℕ) (set : List ℕ) → IsStrictlyIncreasing set → All (λ n. n < limit) set
    → numbers_below limit (has set) ≡ set
unfolding numbers_below
numbers_below-has limit set up below =
    filter-has 0 limit limit set (omega arith) (Rises-from_increasing 0 set up (λ some. omega arith))
    (recursion_from_All (λ n. n < limit) set below)

pub numbers_where-has : (set : List ℕ) → IsSet set → numbers_where (has set) ≡ set
numbers_where-has set ok = numbers_below-has 4096 set ok.ascending ok.below

-- ---- membership

pub Decides-has : (set : List ℕ) (n : ℕ) → Decides (has set n) (Contains set n)
Decides-has set n =
    Decides-contains set n (has set n) (Decides-by_or (λ member. member == n) (λ member. member ≡ n) (λ members. has members n)
    (λ member. Decides-eqb member n) refl (λ _ _. refl) set)

pub same_set : (one other : List ℕ) → IsSet one → IsSet other → ((n : ℕ) → n < 4096 → has one n ≡ has other n) → one ≡ other
same_set one other is_one is_other agree =
    sym (numbers_where-has one is_one) ∙ numbers_below-same 4096 (has one) (has other) agree ∙ numbers_where-has other is_other

-- a set has no number from 4,096 on
pub has-past : (set : List ℕ) (n : ℕ) → IsSet set → 4096 ≤ n → has set n ≡ false
has-past set n ok past = ap (λ s. has s n) (sym (numbers_where-has set ok)) ∙ has-numbers_below_past 4096 (has set) n past
