-- The lowest and the highest numbers of a set.
use Rattle.std.proofs.Common.{
  ◌≡◌,
  ◌≢◌,
  ℕ,
  suc,
  ◌+◌,
  ◌-◌,
  ◌/◌,
  ◌%◌,
  ◌^◌,
  ◌<◌,
  ◌≤◌,
  true,
  false,
  ◌==◌,
  nat_le,
  List,
  [],
  ◌∷◌,
  Option,
  Some,
  None,
  unwrap_or,
  slice_get,
  IfNone,
  IfSome,
  IsNone,
  is_some,
  ◌↔◌,
  refl,
  sym,
  ap,
  ◌∙◌,
  arith,
  inl,
  inr,
  w32,
}
use Rattle.std.specs.Int.{bit_at, trailing_zeros, leading_zeros}
use Rattle.std.specs.List.{last_or}
use Rattle.std.proofs.lemmas.Bool.{cases_lt, cases_eq, lt-leb, le-leb, false≢true, or_parts, or_right}
use Rattle.std.proofs.Math.Nat.{pow-suc, div-eq_of_lt-le}
use Rattle.std.proofs.lemmas.Nat.{leading_top}
use Rattle.std.proofs.lemmas.Nat.Bits.{bit_at-trailing_zeros, bit_at_above}
use Rattle.cpu_set.specs.Sets.{has, IsSet}
use Rattle.cpu_set.specs.SetLaws.{Rises, Rises-from_increasing, has_below, has_first, has_later, filter_in, filter_out}
use Rattle.cpu_set.specs.Texts.{numbers_from, highest}

later_none : (x n : ℕ) (xs : List ℕ) → has (x ∷ xs) n ≡ false → has xs n ≡ false
later_none x n xs none = (or_parts (x == n) (has xs n) none).1

second_in : (x y : ℕ) (ys : List ℕ) → has (x ∷ y ∷ ys) y ≡ true
second_in x y ys = or_right (x == y) (has (y ∷ ys) y) (has_first y y ys refl)

quotient_one : (a p : ℕ) → p ≤ a → a < p + p → a / p ≡ 1
quotient_one a p low high = div-eq_of_lt-le {k = 1} p {m = a} (omega arith) (omega arith)

-- what a list with a number in it begins with or has behind
has_rest : (x n : ℕ) (xs : List ℕ) → has (x ∷ xs) n ≡ true → x ≢ n → has xs n ≡ true
has_rest x n xs found other = sym (has_later x n xs (has xs n) other refl) ∙ found

module _ (from : ℕ) where
  from_all : (low : ℕ) (xs : List ℕ) → Rises low xs → from ≤ low → numbers_from from xs ≡ xs
  from_all low [] rises above = refl
  from_all low (x ∷ xs) rises above =
      filter_in (λ n. nat_le from n) x xs xs (le-leb from x (omega (arith, rises.0))) (from_all (x + 1) xs rises.1 (omega (arith, rises.0)))

  from_skip : (x : ℕ) (xs : List ℕ) → x < from → numbers_from from (x ∷ xs) ≡ numbers_from from xs
  from_skip x xs below = filter_out (λ n. nat_le from n) x xs (lt-leb from x below)

-- the lowest number from `from` on stands before those above it
first_in_rising : (from number low : ℕ) (xs : List ℕ) → Rises low xs → has xs number ≡ true → from ≤ number
    → ((n : ℕ) → from ≤ n → n < number → has xs n ≡ false)
    → numbers_from from xs ≡ number ∷ numbers_from (number + 1) xs
first_in_rising from number low [] rises found at none = absurd (false≢true found)
first_in_rising from number low (x ∷ xs) rises found at none = elim (cases_eq x number) [
  | inl here ↦
      filter_in (λ n. nat_le from n) x xs xs (le-leb from x (omega arith)) (from_all from (x + 1) xs rises.1 (omega arith))
      ∙ ap (λ n. n ∷ xs) here ∙ ap (λ ns. number ∷ ns)
      (sym (from_skip (number + 1) x xs (omega arith) ∙ from_all (number + 1) (x + 1) xs rises.1 (omega arith)))
  | inr other ↦ elim (cases_lt x from) [
    | inl before ↦ from_skip from x xs before
        ∙ first_in_rising from number (x + 1) xs rises.1 (has_rest x number xs found other) at
        (λ n h l. sym (has_later x n xs (has xs n) (omega arith) refl) ∙ none n h l)
        ∙ ap (λ ns. number ∷ ns) (sym (from_skip (number + 1) x xs (omega arith)))
    | inr from_on ↦ elim (cases_lt x number) [
      | inl less ↦ absurd (false≢true (sym (none x from_on less) ∙ has_first x x xs refl))
      | inr above ↦ absurd (false≢true (sym (has_below (x + 1) number xs rises.1 (omega arith)) ∙ has_rest x number xs found other))
    ]
  ]
]

none_in_rising : (from : ℕ) (xs : List ℕ) → ((n : ℕ) → from ≤ n → has xs n ≡ false) → numbers_from from xs ≡ []
none_in_rising from [] none = refl
none_in_rising from (x ∷ xs) none = elim (cases_lt x from) [
  | inl before ↦ from_skip from x xs before ∙ none_in_rising from xs (λ n h. later_none x n xs (none n h))
  | inr from_on ↦ absurd (false≢true (sym (none x from_on) ∙ has_first x x xs refl))
]

pub rising : (set : List ℕ) → IsSet set → Rises 0 set
rising set ok = Rises-from_increasing 0 set ok.ascending (λ some. omega arith)

pub numbers_from-found : (from number : ℕ) (set : List ℕ) → IsSet set → has set number ≡ true → from ≤ number
    → ((n : ℕ) → from ≤ n → n < number → has set n ≡ false)
    → numbers_from from set ≡ number ∷ numbers_from (number + 1) set
numbers_from-found from number set ok found at none = first_in_rising from number 0 set (rising set ok) found at none

pub numbers_from-none : (from : ℕ) (set : List ℕ) → ((n : ℕ) → from ≤ n → has set n ≡ false) → numbers_from from set ≡ []
numbers_from-none from set none = none_in_rising from set none

pub numbers_from-zero : (set : List ℕ) → numbers_from 0 set ≡ set
numbers_from-zero [] = refl
numbers_from-zero (x ∷ xs) = filter_in (λ n. nat_le 0 n) x xs xs (le-leb 0 x (omega arith)) (numbers_from-zero xs)

pub lowest_is : (found : Option ℕ) (set : List ℕ) → IfNone found (numbers_from 0 set ≡ [])
    → IfSome found (λ number. numbers_from 0 set ≡ number ∷ numbers_from (number + 1) set) → found ≡ slice_get set 0
lowest_is None set none some = ap (λ s. slice_get s 0) (sym (sym (numbers_from-zero set) ∙ none))
lowest_is (Some number) set none some = ap (λ s. slice_get s 0) (sym (sym (numbers_from-zero set) ∙ some))

pub lowest_none : (found : Option ℕ) (set : List ℕ) → found ≡ slice_get set 0 → IsNone found ↔ (set ≡ [])
lowest_none found [] is = (λ h. refl, λ h. rw is refl)
lowest_none found (x ∷ xs) is = (λ h. absurd (false≢true (sym (sym (ap is_some is) ∙ h))), λ h. cc)

-- ---- the highest

last_in_rising : (before : Option ℕ) (number low : ℕ) (xs : List ℕ) → Rises low xs → has xs number ≡ true
    → ((n : ℕ) → number < n → has xs n ≡ false) → last_or before xs ≡ Some number
last_in_rising before number low [] rises found none = absurd (false≢true found)
last_in_rising before number low (x ∷ []) rises found none = elim (cases_eq x number) [
  | inl here ↦ ap Some here
  | inr other ↦ absurd (false≢true (has_rest x number [] found other))
]
last_in_rising before number low (x ∷ y ∷ ys) rises found none = elim (cases_eq x number) [
  | inl here ↦ absurd (false≢true (sym (none y (omega (arith, rises.1.0))) ∙ second_in x y ys))
  | inr other ↦ last_in_rising (Some x) number (x + 1) (y ∷ ys) rises.1 (has_rest x number (y ∷ ys) found other)
      (λ n above. later_none x n (y ∷ ys) (none n above))
]

pub highest-found : (number : ℕ) (set : List ℕ) → IsSet set → has set number ≡ true → ((n : ℕ) → number < n → has set n ≡ false)
    → highest set ≡ number
highest-found number set ok found none = ap (λ o. unwrap_or o 0) (last_in_rising None number 0 set (rising set ok) found none)

pub highest-none : (set : List ℕ) → ((n : ℕ) → has set n ≡ false) → highest set ≡ 0
highest-none [] none = refl
highest-none (x ∷ xs) none = absurd (false≢true (sym (none x) ∙ has_first x x xs refl))

-- the last of a list that isn't empty is the highest of an ascending one
record LastOf (first : ℕ) (rest : List ℕ) (top low : ℕ) : Type 0 where
  is : last_or (Some first) rest ≡ Some top
  among : has (first ∷ rest) top ≡ true
  above : Rises low (first ∷ rest) → (n : ℕ) → top < n → has (first ∷ rest) n ≡ false

last_of : (first low : ℕ) (rest : List ℕ) → (top : ℕ) × LastOf first rest top low
last_of first low [] = (
  first,
  record {
    is = refl;
    among = has_first first first [] refl;
    above =
        λ rises n more. has_later first n [] false (omega arith) refl;
  },
)
last_of first low (second ∷ rest) =
    let later = last_of second (first + 1) rest in
    let top = later.0 in (
      top,
      record {
        is = later.1.is;
        among = or_right (first == top) (has (second ∷ rest) top) later.1.among;
        above = λ rises n more. has_later first n (second ∷ rest) false
            (let order : first < top = elim
            (cases_lt first top) [
              | inl less ↦ less
              | inr at_most
                  ↦ absurd (false≢true (sym (has_below (first + 1) top (second ∷ rest) rises.1 (omega arith)) ∙ later.1.among))
            ] in
            omega arith)
            (later.1.above rises.1 n more);
      },
    )

pub highest-among : (first : ℕ) (rest : List ℕ) → has (first ∷ rest) (highest (first ∷ rest)) ≡ true
highest-among first rest = let last = last_of first 0 rest in ap (λ o. has (first ∷ rest) (unwrap_or o 0)) last.1.is ∙ last.1.among

pub highest-above : (set : List ℕ) → IsSet set → (n : ℕ) → highest set < n → has set n ≡ false
highest-above [] ok n more = refl
highest-above (first ∷ rest) ok n more =
    let last = last_of first 0 rest in
    let top_is : highest (first ∷ rest) ≡ last.0 = ap (λ o. unwrap_or o 0) last.1.is in
    last.1.above (rising (first ∷ rest) ok) n (omega (arith, top_is))

-- ---- the lowest and the highest bit of a word

pub record LowestBit (word bit : ℕ) : Type 0 where
  pub within : bit < 32
  pub is_set : (bit_at word bit == 1) ≡ true
  pub below : (i : ℕ) → i < bit → (bit_at word i == 1) ≡ false

pub LowestBit-trailing_zeros : (word : ℕ) → word ≢ 0 → word < 2 ^ 32 → LowestBit word (trailing_zeros w32 word)
LowestBit-trailing_zeros word some narrow =
    let facts = bit_at-trailing_zeros w32 word (omega arith) narrow in
    record {
      within = facts.0;
      is_set = ap (λ value. value == 1) facts.1;
      below = λ i h. ap (λ value. value == 1) (facts.2 i h);
    }

pub record HighestBit (word bit : ℕ) : Type 0 where
  pub within : bit < 32
  pub is_set : (bit_at word bit == 1) ≡ true
  pub above : (i : ℕ) → bit < i → (bit_at word i == 1) ≡ false

pub HighestBit-leading_zeros : (word : ℕ) → word ≢ 0 → word < 2 ^ 32 → HighestBit word (31 - leading_zeros w32 word)
HighestBit-leading_zeros word some narrow =
    let top = leading_top 32 word (omega arith) narrow in
    rw (let same : 31 - leading_zeros w32 word ≡ top.0 = omega (arith, top.1) in same)
    (record {
      within = omega (arith, top.1);
      is_set = ap (λ value. value % 2 == 1) (quotient_one word (2 ^ top.0) top.2 (omega (arith, pow-suc 2 top.0, top.3)));
      above = λ i h. ap (λ value. value == 1) (bit_at_above word (suc top.0) i top.3 (omega arith));
    })
