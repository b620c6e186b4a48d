-- Laws of numbers by their bits, and of the words of a set.
use Rattle.std.proofs.Common.{
  ◌≡◌,
  ℕ,
  zero,
  suc,
  ◌+◌,
  ◌-◌,
  ◌*◌,
  ◌/◌,
  ◌%◌,
  ◌^◌,
  ◌<◌,
  Bool,
  true,
  false,
  cond,
  ◌==◌,
  List,
  length,
  slice_index,
  lit<,
  refl,
  sym,
  ap,
  ◌∙◌,
  arith,
  inl,
  inr,
}
use Rattle.std.proofs.Math.Numerals.{add-one}
use Rattle.std.proofs.Math.Nat.{pow-suc}
use Rattle.std.specs.Int.{bit_at}
use Rattle.std.specs.List.{range_with_len, sum_by}
use Rattle.std.proofs.lemmas.Bool.{cases_lt}
use Rattle.std.proofs.lemmas.Bool.Decides.{nat_tests}
use Rattle.std.proofs.lemmas.List.{map-id}
use Rattle.std.proofs.lemmas.List.Elements.{All-get_or}
use Rattle.std.proofs.lemmas.List.FromFn.{sum_by-map-range_with_len_more, fill_by_all}
use Rattle.std.proofs.lemmas.Nat.Bits.{bit_at_cat_low, bit_at_cat_high, bit_at-lt, bit_at_lowest, same_from_bits_below}
use Rattle.cpu_set.specs.Sets.{has}
use Rattle.cpu_set.specs.SetLaws.{has-numbers_below}
use Rattle.cpu_set.specs.Bits.{number_with_bits, word_of, is_bit_of, AreWords, set_of_words, first_words_of_set, words_of_set}

-- a bit is 1 or 0
pub bit_from_test : (bit : ℕ) → bit < 2 → cond (bit == 1) 1 0 ≡ bit
bit_from_test bit low = grind (arith, nat_tests)

pub test_from_bit : (passes : Bool) → (cond passes 1 0 == 1) ≡ passes
test_from_bit true = refl
test_from_bit false = refl

weight_of : (passes : Bool) (p : ℕ) → cond passes p 0 ≡ cond passes 1 0 * p
weight_of true p = omega arith
weight_of false p = omega arith

bit_of_test : (passes : Bool) → cond passes 1 0 % 2 ≡ cond passes 1 0
bit_of_test true = refl
bit_of_test false = refl

below_more_bits : (passes : Bool) (rest places : ℕ) → rest < 2 ^ places → cond passes 1 0 * 2 ^ places + rest < 2 ^ suc places
below_more_bits true rest places below = omega (arith, pow-suc 2 places)
below_more_bits false rest places below = omega (arith, pow-suc 2 places)

module _ (test : ℕ → Bool) where
  number_with_bits-add_one : (places : ℕ)
      → number_with_bits test (places + 1) ≡ cond (test places) 1 0 * 2 ^ places + number_with_bits test places
  unfolding number_with_bits
  number_with_bits-add_one places =
      let weight = λ (place : ℕ). cond (test place) (2 ^ place) 0 in
      let step = sum_by-map-range_with_len_more weight (λ place. place) 0 places places (omega arith) in
      let plain : sum_by weight (range_with_len 0 (places + 1)) ≡ sum_by weight (range_with_len 0 places) + weight places =
      (simp (map-id {A = ℕ}) at step) in
      omega (arith, weight_of (test places) (2 ^ places))

  number_with_bits-suc : (places : ℕ) → number_with_bits test (suc places) ≡ cond
      (test places) 1 0 * 2 ^ places + number_with_bits test places
  number_with_bits-suc places = rw add-one at (number_with_bits-add_one places)

  number_with_bits_none : number_with_bits test 0 ≡ 0
  unfolding number_with_bits
  number_with_bits_none = refl

  pub number_with_bits-below : (places : ℕ) → number_with_bits test places < 2 ^ places
  number_with_bits-below zero = rw number_with_bits_none (lit< tt)
  number_with_bits-below (suc places) =
      rw number_with_bits-suc (below_more_bits (test places) (number_with_bits test places) places (number_with_bits-below places))

  -- a bit of the number is set where the place passes the test
  bit_at-number_with_bits : (places place : ℕ) → place < places → bit_at (number_with_bits test places) place ≡ cond (test place) 1 0
  bit_at-number_with_bits zero place below = absurd (omega arith)
  bit_at-number_with_bits (suc places) place below =
      ap (λ n. bit_at n place) (number_with_bits-suc places) ∙ elim (cases_lt place places) [
        | inl earlier ↦ bit_at_cat_low (cond (test places) 1 0) places (number_with_bits test places) place earlier
            ∙ bit_at-number_with_bits places place earlier
        | inr last ↦ let same : place ≡ places = omega arith in
            bit_at_cat_high (cond (test places) 1 0) places (number_with_bits test places) place (number_with_bits-below places) last
            ∙ ap (λ i. bit_at (cond (test places) 1 0) i) (let none : place - places ≡ 0 = omega arith in none)
            ∙ bit_at_lowest (cond (test places) 1 0) ∙ bit_of_test (test places) ∙ ap (λ i. cond (test i) 1 0) (sym same)
      ]

  pub is_bit-number_with_bits : (places place : ℕ) → place < places → (bit_at (number_with_bits test places) place == 1) ≡ test place
  is_bit-number_with_bits places place below =
      ap (λ bit. bit == 1) (bit_at-number_with_bits places place below) ∙ test_from_bit (test place)

-- two numbers of so many bits with the same bits, seen as tests
pub same_from_tests : (places a b : ℕ) → a < 2 ^ places → b < 2 ^ places → ((i : ℕ) → i < places → (bit_at a i == 1) ≡ (bit_at b i == 1))
    → a ≡ b
same_from_tests places a b a_below b_below agree =
    same_from_bits_below places a b a_below b_below
    (λ i below. sym (bit_from_test (bit_at a i) (bit_at-lt a i)) ∙ ap (λ t. cond t 1 0) (agree i below)
    ∙ bit_from_test (bit_at b i) (bit_at-lt b i))

-- ---- the words of a set

pub word_of-below : (set : List ℕ) (place : ℕ) → word_of set place < 2 ^ 32
word_of-below set place = number_with_bits-below (λ bit. has set (32 * place + bit)) 32

pub is_bit-word_of : (set : List ℕ) (place bit : ℕ) → bit < 32 → (bit_at (word_of set place) bit == 1) ≡ has set (32 * place + bit)
is_bit-word_of set place bit below = is_bit-number_with_bits (λ b. has set (32 * place + b)) 32 bit below

-- where the test of a number is in words
pub is_bit_of-at : (words : List ℕ) (place bit : ℕ) → bit < 32
    → is_bit_of words (32 * place + bit) ≡ (bit_at (slice_index words place) bit == 1)
is_bit_of-at words place bit below =
    let quotient : (32 * place + bit) / 32 ≡ place = omega arith in
    let remainder : (32 * place + bit) % 32 ≡ bit = omega arith in
    ap (λ q. bit_at (slice_index words q) ((32 * place + bit) % 32) == 1) quotient
    ∙ ap (λ r. bit_at (slice_index words place) r == 1) remainder

pub word_of-set_of_words : (words : List ℕ) (place : ℕ) → AreWords words → place < 128
    → word_of (set_of_words words) place ≡ slice_index words place
word_of-set_of_words words place ok below =
    same_from_tests 32 _ _ (word_of-below (set_of_words words) place)
    (All-get_or (λ word. word < 2 ^ 32) words place 0 (omega (arith, ok.count)) ok.narrow)
    (λ bit low. is_bit-word_of (set_of_words words) place bit low
    ∙ has-numbers_below 4096 (is_bit_of words) (32 * place + bit) (omega arith) ∙ is_bit_of-at words place bit low)

first_words-of_words : (count : ℕ) (words : List ℕ) → length words ≡ count
    → ((place : ℕ) → place < count → word_of (set_of_words words) place ≡ slice_index words place)
    → first_words_of_set count (set_of_words words) ≡ words
unfolding first_words_of_set
first_words-of_words count words long agree =
    sym (fill_by_all (word_of (set_of_words words)) words count 0 long (λ place below. sym (agree place below)))

pub words_of_set_of_words : (words : List ℕ) → AreWords words → words_of_set (set_of_words words) ≡ words
words_of_set_of_words words ok = first_words-of_words 128 words ok.count (λ place below. word_of-set_of_words words place ok below)
