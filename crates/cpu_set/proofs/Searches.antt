-- The lowest number from a start on, and the highest number, found word by word.
use Rattle.std.proofs.Common.{
  ◌≡◌,
  ◌≢◌,
  ℕ,
  ◌+◌,
  ◌-◌,
  ◌*◌,
  ◌/◌,
  ◌%◌,
  ◌^◌,
  ◌<◌,
  ◌≤◌,
  Bool,
  true,
  false,
  not,
  ◌&&◌,
  ◌==◌,
  nat_le,
  List,
  [],
  ◌∷◌,
  get_or,
  refl,
  sym,
  ap,
  ◌∙◌,
  arith,
  inl,
  inr,
  bit_and,
  w32,
}
use Rattle.std.specs.Int.{bit_at, trailing_zeros, leading_zeros}
use Rattle.std.specs.Bool.{Decides}
use Rattle.std.proofs.lemmas.Bool.{cases_lt, and_parts, not-true, le-leb, leb-true, false≢true, false_from_ne_true}
use Rattle.std.proofs.lemmas.Bool.Decides.{Decides-and}
use Rattle.std.specs.Int.{bit_not}
use Rattle.std.specs.List.{All, AllByRecursion as ByRecursion, Contains, list_any, list_all}
use Rattle.std.proofs.lemmas.List.Elements.{
  All-get_or,
  All-from_get_or,
  All-contains,
  All-from_recursion,
  recursion_from_All,
  Contains-get_or,
  at_from_Contains,
}
use Rattle.std.proofs.lemmas.List.Folds.{list_any_none, list_any_at}
use Rattle.std.proofs.lemmas.Nat.{and_le_l}
use Rattle.std.proofs.lemmas.Nat.Bits.{ones_shl, bit_at-zero}
use Rattle.cpu_set.specs.Sets.{has, IsSet}
use Rattle.cpu_set.specs.Tests.{meets, is_inside}
use Rattle.cpu_set.specs.SetLaws.{has-past, Decides-has}
use Rattle.cpu_set.specs.Bits.{is_bit_of, AreWords, set_of_words}
use Rattle.cpu_set.specs.WordLaws.{is_bit_of-at, test_from_bit}
use Rattle.cpu_set.specs.Texts.{numbers_from, highest}
use Rattle.cpu_set.proofs.Ends.{
  LowestBit-trailing_zeros,
  HighestBit-leading_zeros,
  numbers_from-found,
  numbers_from-none,
  highest-found,
  highest-none,
}
use Rattle.cpu_set.proofs.SetSteps.{IsSet-view, has-view, narrow_word, test-and, test-and_not, and_not, bit_from}

dropped : (a b : Bool) → (a && b) ≡ false → b ≡ true → a ≡ false
dropped true b none yes_b = absurd (false≢true (sym none ∙ yes_b))
dropped false b none yes_b = refl

pub record Found (members : List ℕ) (from number : ℕ) : Type 0 where
  pub has_it : has members number ≡ true
  pub from_on : from ≤ number
  pub limit : number < 4096
  pub none : (n : ℕ) → from ≤ n → n < number → has members n ≡ false

pub numbers_from-Found : (members : List ℕ) (from number : ℕ) → IsSet members → Found members from number
    → numbers_from from members ≡ number ∷ numbers_from (number + 1) members
numbers_from-Found members from number ok found = numbers_from-found from number members ok found.has_it found.from_on found.none

-- the words have no number from the start up to that place
pub record NoneUpTo (words : List ℕ) (from place : ℕ) : Type 0 where
  pub none : (n : ℕ) → from ≤ n → n < 32 * place → n < 4096 → is_bit_of words n ≡ false

module _ (words members : List ℕ) (view : set_of_words words ≡ members) (ok : AreWords words) (from : ℕ) (low : from < 4096) where
  -- the bit of a number in the word that begins at the start
  masked_bit : (masked bit : ℕ) → masked ≡ bit_and (get_or words (from / 32) 0) (4294967295 * 2 ^ (from % 32) % 4294967296) → bit < 32
      → (bit_at masked bit == 1) ≡ (bit_at (get_or words (from / 32) 0) bit == 1 && nat_le (from % 32) bit)
  masked_bit masked bit is below =
      let mask : 4294967295 * 2 ^ (from % 32) % 4294967296 ≡ 2 ^ 32 - 2 ^ (from % 32) = ones_shl 32 (from % 32) (omega arith) in
      ap (λ n. bit_at n bit == 1) is ∙ test-and (get_or words (from / 32) 0) (4294967295 * 2 ^ (from % 32) % 4294967296) bit
      ∙ ap (λ n. bit_at (get_or words (from / 32) 0) bit == 1 && bit_at n bit == 1) mask
      ∙ ap (λ value. bit_at (get_or words (from / 32) 0) bit == 1 && value == 1) (bit_from (from % 32) bit below)
      ∙ ap (λ t. bit_at (get_or words (from / 32) 0) bit == 1 && t) (test_from_bit (nat_le (from % 32) bit))

  masked_none : (masked : ℕ) → masked ≡ bit_and (get_or words (from / 32) 0) (4294967295 * 2 ^ (from % 32) % 4294967296)
      → (n : ℕ) → from ≤ n → n / 32 ≡ from / 32 → (bit_at masked (n % 32) == 1) ≡ false → is_bit_of words n ≡ false
  masked_none masked is n at same none =
      ap (λ q. bit_at (get_or words q 0) (n % 32) == 1) same
      ∙ dropped (bit_at (get_or words (from / 32) 0) (n % 32) == 1) (nat_le (from % 32) (n % 32))
      (sym (masked_bit masked (n % 32) is (omega arith)) ∙ none) (le-leb (from % 32) (n % 32) (omega arith))

  pub found_first : (masked : ℕ) → masked ≡ bit_and (get_or words (from / 32) 0) (4294967295 * 2 ^ (from % 32) % 4294967296) → masked ≢ 0
      → Found members from (32 * (from / 32) + trailing_zeros w32 masked)
  found_first masked is some =
      let narrow : masked < 2 ^ 32 = omega (
        arith,
        and_le_l (get_or words (from / 32) 0) (4294967295 * 2 ^ (from % 32) % 4294967296),
        narrow_word words (from / 32) ok
            (omega arith),
      ) in
      let lowest = LowestBit-trailing_zeros masked some narrow in
      let place = from / 32 in
      let bit = trailing_zeros w32 masked in
      let parts = and_parts (bit_at (get_or words place 0) bit == 1) (nat_le (from % 32) bit)
      (sym (masked_bit masked bit is lowest.within) ∙ lowest.is_set) in
      let at : from % 32 ≤ bit = leb-true (from % 32) bit parts.1 in
      record {
        has_it =
            has-view words members view (32 * place + bit) (omega (arith, lowest.within)) ∙ is_bit_of-at words place bit lowest.within
            ∙ parts.0;
        from_on = omega arith;
        limit = omega (arith, lowest.within);
        none =
            λ n h l. has-view words members view n (omega (arith, lowest.within))
            ∙ masked_none masked is n h (omega (arith, lowest.within)) (lowest.below (n % 32) (omega (arith, lowest.within)));
      }

  pub none_first : (masked : ℕ) → masked ≡ bit_and (get_or words (from / 32) 0) (4294967295 * 2 ^ (from % 32) % 4294967296) → masked ≡ 0
      → NoneUpTo words from (from / 32 + 1)
  none_first masked is nothing = record {
    none =
        λ n h l limit. masked_none masked is n h (omega arith)
        (ap (λ word. bit_at word (n % 32) == 1) nothing ∙ ap (λ value. value == 1) (bit_at-zero (n % 32)));
  }

  pub found_later : (place : ℕ) → from < 32 * place → place < 128 → NoneUpTo words from place → get_or words place 0 ≢ 0
      → Found members from (32 * place + trailing_zeros w32 (get_or words place 0))
  found_later place later below none some =
      let lowest = LowestBit-trailing_zeros (get_or words place 0) some (narrow_word words place ok below) in
      let bit = trailing_zeros w32 (get_or words place 0) in
      record {
        has_it =
            has-view words members view (32 * place + bit) (omega (arith, lowest.within)) ∙ is_bit_of-at words place bit lowest.within
            ∙ lowest.is_set;
        from_on = omega arith;
        limit = omega (arith, lowest.within);
        none = λ n h l. has-view words members view n (omega (arith, lowest.within)) ∙ elim (cases_lt n (32 * place)) [
          | inl before ↦ none.none n h before (omega arith)
          | inr here ↦ ap (λ q. bit_at (get_or words q 0) (n % 32) == 1) (let same : n / 32 ≡ place = omega (arith, lowest.within) in same)
              ∙ lowest.below (n % 32) (omega (arith, lowest.within))
        ];
      }

  pub none_later : (place : ℕ) → NoneUpTo words from place → get_or words place 0 ≡ 0 → NoneUpTo words from (place + 1)
  none_later place none nothing = record {
    none = λ n h l limit. elim (cases_lt n (32 * place)) [
      | inl before ↦ none.none n h before limit
      | inr here ↦ ap (λ q. bit_at (get_or words q 0) (n % 32) == 1) (let same : n / 32 ≡ place = omega arith in same)
          ∙ ap (λ word. bit_at word (n % 32) == 1) nothing ∙ ap (λ value. value == 1) (bit_at-zero (n % 32))
    ];
  }

  pub none_at_all : (place : ℕ) → 128 ≤ place → NoneUpTo words from place → numbers_from from members ≡ []
  none_at_all place all none = numbers_from-none from members (λ n h. elim (cases_lt n 4096) [
    | inl below ↦ has-view words members view n below ∙ none.none n h (omega arith) below
    | inr past ↦ has-past members n (IsSet-view words members view) past
  ])

pub none_past : (members : List ℕ) (from : ℕ) → IsSet members → 4096 ≤ from → numbers_from from members ≡ []
none_past members from ok past = numbers_from-none from members (λ n h. has-past members n ok (omega arith))

-- ---- the highest

-- the words from a place on have no number
pub record NoneFrom (words : List ℕ) (place : ℕ) : Type 0 where
  pub none : (n : ℕ) → 32 * place ≤ n → n < 4096 → is_bit_of words n ≡ false

module _ (words members : List ℕ) (view : set_of_words words ≡ members) (ok : AreWords words) where
  pub highest_word : (place next : ℕ) → next ≡ place + 1 → place < 128 → NoneFrom words next → get_or words place 0 ≢ 0
      → 32 * place + (31 - leading_zeros w32 (get_or words place 0)) ≡ highest members
  highest_word place next follows below none some =
      let top = HighestBit-leading_zeros (get_or words place 0) some (narrow_word words place ok below) in
      let bit = 31 - leading_zeros w32 (get_or words place 0) in
      sym (highest-found (32 * place + bit) members (IsSet-view words members view)
      (has-view words members view (32 * place + bit) (omega (arith, top.within)) ∙ is_bit_of-at words place bit top.within ∙ top.is_set)
      (λ n above. elim (cases_lt n 4096) [
        | inr past ↦ has-past members n (IsSet-view words members view) past
        | inl limit ↦ has-view words members view n limit ∙ elim (cases_lt n (32 * next)) [
          | inl here ↦ ap (λ q. bit_at (get_or words q 0) (n % 32) == 1) (let same : n / 32 ≡ place = omega arith in same)
              ∙ top.above (n % 32) (omega arith)
          | inr later ↦ none.none n later limit
        ]
      ]))

  pub none_from_word : (place next : ℕ) → next ≡ place + 1 → NoneFrom words next → get_or words place 0 ≡ 0 → NoneFrom words place
  none_from_word place next follows none nothing = record {
    none = λ n h limit. elim (cases_lt n (32 * next)) [
      | inl here ↦ ap (λ q. bit_at (get_or words q 0) (n % 32) == 1) (let same : n / 32 ≡ place = omega arith in same)
          ∙ ap (λ word. bit_at word (n % 32) == 1) nothing ∙ ap (λ value. value == 1) (bit_at-zero (n % 32))
      | inr later ↦ none.none n later limit
    ];
  }

  pub highest_nowhere : (place : ℕ) → place ≤ 0 → NoneFrom words place → 0 ≡ highest members
  highest_nowhere place end none = sym (highest-none members (λ n. elim (cases_lt n 4096) [
    | inl limit ↦ has-view words members view n limit ∙ none.none n (omega arith) limit
    | inr past ↦ has-past members n (IsSet-view words members view) past
  ]))

pub none_from_end : (words : List ℕ) → NoneFrom words 128
none_from_end words = record { none = λ n h limit. absurd (omega arith) }

-- ---- one set inside another

-- the first so many words of the one set have no bit that the other lacks
pub record InsideUpTo (ones others : List ℕ) (place : ℕ) : Type 0 where
  pub none : (k : ℕ) → k < place → and_not (get_or ones k 0) (get_or others k 0) ≡ 0

pub inside_none : (ones others : List ℕ) → InsideUpTo ones others 0
inside_none ones others = record { none = λ k h. absurd (omega arith) }

pub inside_more : (ones others : List ℕ) (place : ℕ) → InsideUpTo ones others place
    → and_not (get_or ones place 0) (get_or others place 0) ≡ 0 → InsideUpTo ones others (place + 1)
inside_more ones others place so_far here = record {
  none = λ k h. elim (cases_lt k place) [
    | inl before ↦ so_far.none k before
    | inr last ↦ ap (λ p. and_not (get_or ones p 0) (get_or others p 0)) (let same : k ≡ place = omega arith in same) ∙ here
  ];
}

kept_out : (a b : Bool) → (a && not b) ≡ false → a ≡ true → b ≡ true
kept_out a true none yes_a = refl
kept_out true false none yes_a = absurd (false≢true (sym none))
kept_out false false none yes_a = absurd (false≢true yes_a)

module _ (ones others one_set other_set : List ℕ) (one_view : set_of_words ones ≡ one_set) (other_view : set_of_words others ≡ other_set)
    (are_ones : AreWords ones) (are_others : AreWords others) where
  pub inside_all : (place : ℕ) → 128 ≤ place → InsideUpTo ones others place → All (Contains other_set) one_set
  inside_all place all inside = All-from_get_or (Contains other_set) one_set 0 (λ i within.
      let n = get_or one_set i 0 in
      let ok = IsSet-view ones one_set one_view in
      let limit : n < 4096 = All-get_or (λ m. m < 4096) one_set i 0 within ok.below in
      let here : has one_set n ≡ true = (Decides-has one_set n).1 (Contains-get_or one_set i 0 within) in
      let bits = sym (test-and_not (get_or ones (n / 32) 0) (get_or others (n / 32) 0) (n % 32)
      (narrow_word others (n / 32) are_others (omega arith)) (omega arith))
      ∙ ap (λ word. bit_at word (n % 32) == 1) (inside.none (n / 32) (omega arith)) ∙ ap (λ value. value == 1) (bit_at-zero (n % 32)) in
      (Decides-has other_set n).0 (has-view others other_set other_view n limit
      ∙ kept_out (is_bit_of ones n) (is_bit_of others n) bits (sym (has-view ones one_set one_view n limit) ∙ here)))

  pub not_inside : (place : ℕ) → place < 128 → and_not (get_or ones place 0) (get_or others place 0) ≢ 0
      → ¬ (All (Contains other_set) one_set)
  not_inside place below some all =
      let lowest = LowestBit-trailing_zeros (and_not (get_or ones place 0) (get_or others place 0)) some
      (omega (arith, and_le_l (get_or ones place 0) (bit_not w32 (get_or others place 0)), narrow_word ones place are_ones below)) in
      let bit = trailing_zeros w32 (and_not (get_or ones place 0) (get_or others place 0)) in
      let n = 32 * place + bit in
      let limit : n < 4096 = omega (arith, lowest.within) in
      let parts = and_parts (bit_at (get_or ones place 0) bit == 1) (not (bit_at (get_or others place 0) bit == 1))
      (sym (test-and_not (get_or ones place 0) (get_or others place 0) bit (narrow_word others place are_others below) lowest.within)
      ∙ lowest.is_set) in
      let here : has one_set n ≡ true = has-view ones one_set one_view n limit ∙ is_bit_of-at ones place bit lowest.within ∙ parts.0 in
      let there : has other_set n ≡ false =
      has-view others other_set other_view n limit ∙ is_bit_of-at others place bit lowest.within
      ∙ not-true (bit_at (get_or others place 0) bit == 1) parts.1 in
      false≢true (sym there ∙ (Decides-has other_set n).1
      (All-contains (Contains other_set) one_set n all ((Decides-has one_set n).0 here)))

-- ---- a number in common

-- the first so many words of the two sets have no bit in common
pub record ApartUpTo (ones others : List ℕ) (place : ℕ) : Type 0 where
  pub none : (k : ℕ) → k < place → bit_and (get_or ones k 0) (get_or others k 0) ≡ 0

pub apart_none : (ones others : List ℕ) → ApartUpTo ones others 0
apart_none ones others = record { none = λ k h. absurd (omega arith) }

pub apart_more : (ones others : List ℕ) (place : ℕ) → ApartUpTo ones others place
    → bit_and (get_or ones place 0) (get_or others place 0) ≡ 0 → ApartUpTo ones others (place + 1)
apart_more ones others place so_far here = record {
  none = λ k h. elim (cases_lt k place) [
    | inl before ↦ so_far.none k before
    | inr last ↦ ap (λ p. bit_and (get_or ones p 0) (get_or others p 0)) (let same : k ≡ place = omega arith in same) ∙ here
  ];
}

left_out : (a b : Bool) → (a && b) ≡ false → a ≡ true → b ≡ false
left_out true b none yes_a = none
left_out false b none yes_a = absurd (false≢true yes_a)

module _ (ones others one_set other_set : List ℕ) (one_view : set_of_words ones ≡ one_set) (other_view : set_of_words others ≡ other_set)
    (are_ones : AreWords ones) where
  pub apart_all : (place : ℕ) → 128 ≤ place → ApartUpTo ones others place → meets one_set other_set ≡ false
  unfolding meets
  apart_all place all apart = list_any_none (has other_set) one_set (All-from_get_or (λ n. has other_set n ≡ false) one_set 0 (λ i within.
      let n = get_or one_set i 0 in
      let ok = IsSet-view ones one_set one_view in
      let limit : n < 4096 = All-get_or (λ m. m < 4096) one_set i 0 within ok.below in
      let here : has one_set n ≡ true = (Decides-has one_set n).1 (Contains-get_or one_set i 0 within) in
      let bits = sym (test-and (get_or ones (n / 32) 0) (get_or others (n / 32) 0) (n % 32))
      ∙ ap (λ word. bit_at word (n % 32) == 1) (apart.none (n / 32) (omega arith)) ∙ ap (λ value. value == 1) (bit_at-zero (n % 32)) in
      has-view others other_set other_view n limit
      ∙ left_out (is_bit_of ones n) (is_bit_of others n) bits (sym (has-view ones one_set one_view n limit) ∙ here)))

  pub not_apart : (place : ℕ) → place < 128 → bit_and (get_or ones place 0) (get_or others place 0) ≢ 0 → meets one_set other_set ≡ true
  unfolding meets
  not_apart place below some =
      let lowest = LowestBit-trailing_zeros (bit_and (get_or ones place 0) (get_or others place 0)) some
      (omega (arith, and_le_l (get_or ones place 0) (get_or others place 0), narrow_word ones place are_ones below)) in
      let bit = trailing_zeros w32 (bit_and (get_or ones place 0) (get_or others place 0)) in
      let n = 32 * place + bit in
      let limit : n < 4096 = omega (arith, lowest.within) in
      let parts = and_parts (bit_at (get_or ones place 0) bit == 1) (bit_at (get_or others place 0) bit == 1)
      (sym (test-and (get_or ones place 0) (get_or others place 0) bit) ∙ lowest.is_set) in
      let here : has one_set n ≡ true = has-view ones one_set one_view n limit ∙ is_bit_of-at ones place bit lowest.within ∙ parts.0 in
      let there : has other_set n ≡ true =
      has-view others other_set other_view n limit ∙ is_bit_of-at others place bit lowest.within ∙ parts.1 in
      let at = at_from_Contains one_set n ((Decides-has one_set n).0 here) in
      list_any_at (has other_set) one_set at.0 n at.1 (ap (has other_set) (at.2 n) ∙ there)

-- ---- the test for one set inside another

Decides-inside : (one other : List ℕ) → Decides (is_inside one other) (ByRecursion (Contains other) one)
unfolding is_inside
Decides-inside [] other = (λ _. tt, λ _. refl)
Decides-inside (number ∷ numbers) other =
    Decides-and (has other number) (list_all (has other) numbers) (Decides-has other number) (Decides-inside numbers other)

pub is_inside-yes : (one other : List ℕ) → All (Contains other) one → is_inside one other ≡ true
is_inside-yes one other all = (Decides-inside one other).1 (recursion_from_All (Contains other) one all)

pub is_inside-no : (one other : List ℕ) → ¬ (All (Contains other) one) → is_inside one other ≡ false
is_inside-no one other out =
    false_from_ne_true (is_inside one other) (λ yes. out (All-from_recursion (Contains other) one ((Decides-inside one other).0 yes)))
