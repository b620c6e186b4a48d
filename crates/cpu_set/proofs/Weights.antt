-- How many numbers the words of a set have.
use Rattle.std.proofs.Common.{
  ◌≡◌,
  ℕ,
  zero,
  suc,
  ◌+◌,
  ◌*◌,
  ◌/◌,
  ◌%◌,
  ◌^◌,
  ◌<◌,
  ◌≤◌,
  Bool,
  true,
  false,
  cond,
  ◌==◌,
  List,
  [],
  ◌∷◌,
  ◌++◌,
  length,
  get_or,
  refl,
  sym,
  ap,
  ◌∙◌,
  arith,
}
use Rattle.std.proofs.Math.Nat.{pow-suc}
use Rattle.std.specs.Int.{bit_at}
use Rattle.std.specs.Int.Count.{ones, ones_step}
use Rattle.std.specs.List.{filter, range_with_len}
use Rattle.std.proofs.lemmas.List.{length-append}
use Rattle.std.proofs.lemmas.List.Elements.{filter-append}
use Rattle.std.proofs.lemmas.List.FromFn.{length-range_with_len}
use Rattle.std.proofs.lemmas.Nat.Bits.{bit_at_lowest, bit_at-suc}
use Rattle.cpu_set.specs.Sets.{numbers_below}
use Rattle.cpu_set.specs.Bits.{is_bit_of, AreWords, set_of_words}
use Rattle.cpu_set.specs.WordLaws.{is_bit_of-at, bit_from_test}
use Rattle.cpu_set.proofs.SetSteps.{narrow_word}

at_most_one : (passes : Bool) → cond passes 1 0 ≤ 1
at_most_one true = omega arith
at_most_one false = omega arith

range_split : (one start other total middle : ℕ) → one + other ≡ total → start + one ≡ middle
    → range_with_len start total ≡ range_with_len start one ++ range_with_len middle other
range_split zero start other total middle sum from =
    let count : total ≡ other = omega arith in
    let place : start ≡ middle = omega arith in
    ap (λ n. range_with_len start n) count ∙ ap (λ n. range_with_len n other) place
range_split (suc one) start other zero middle sum from = absurd (omega arith)
range_split (suc one) start other (suc total) middle sum from =
    ap (λ ns. start ∷ ns) (range_split one (start + 1) other total middle (omega arith) (omega arith))

numbers_below-split : (one other total : ℕ) (test : ℕ → Bool) → one + other ≡ total → numbers_below total test ≡ numbers_below one test
    ++ filter test (range_with_len one other)
unfolding numbers_below
numbers_below-split one other total test sum =
    ap (filter test) (range_split one 0 other total one sum (omega arith))
    ∙ filter-append test (range_with_len 0 one) (range_with_len one other)

length-kept : (test : ℕ → Bool) (n : ℕ) (ns : List ℕ) → length (filter test (n ∷ ns)) ≡ cond (test n) 1 0 + length (filter test ns)
length-kept test n ns = kept (test n)
  where
    kept : (passes : Bool) → length (cond passes (n ∷ filter test ns) (filter test ns)) ≡ cond passes 1 0 + length (filter test ns)
    kept true = omega arith
    kept false = omega arith

-- the numbers of a word are as many as its ones
count_bits : (places start word : ℕ) (test : ℕ → Bool) → word < 2 ^ places
    → ((bit : ℕ) → bit < places → test (start + bit) ≡ (bit_at word bit == 1))
    → length (filter test (range_with_len start places)) ≡ ones word
unfolding ones
count_bits zero start word test narrow agree = let none : word ≡ 0 = omega arith in ap ones (sym none)
count_bits (suc places) start word test narrow agree =
    let here : test start ≡ (word % 2 == 1) =
    ap test (let same : start ≡ start + 0 = omega arith in same) ∙ agree 0 (omega arith) ∙ ap (λ value. value == 1) (bit_at_lowest word)
    in
    let later = count_bits places (start + 1) (word / 2) test (omega (arith, pow-suc 2 places)) (λ bit below.
    ap test (let same : (start + 1) + bit ≡ start + suc bit = omega arith in same) ∙ agree (suc bit) (omega arith)
    ∙ ap (λ value. value == 1) (bit_at-suc word bit)) in
    length-kept test start (range_with_len (start + 1) places)
    ∙ ap (λ t. cond t 1 0 + length (filter test (range_with_len (start + 1) places))) here
    ∙ ap (λ n. cond (word % 2 == 1) 1 0 + n) later
    ∙ ap (λ n. n + ones (word / 2)) (bit_from_test (word % 2) (omega arith)) ∙ sym (ones_step word)

-- how many numbers the first so many words have
unfoldable pub count_below : List ℕ → ℕ → ℕ
count_below words place = length (numbers_below (32 * place) (is_bit_of words))

pub count_below-none : (words : List ℕ) → count_below words 0 ≡ 0
unfolding count_below numbers_below
count_below-none words = refl

pub count_below-more : (words : List ℕ) (place : ℕ) → AreWords words → place < 128
    → count_below words (place + 1) ≡ count_below words place + ones (get_or words place 0)
unfolding count_below
count_below-more words place ok below =
    ap length (numbers_below-split (32 * place) 32 (32 * (place + 1)) (is_bit_of words) (omega arith))
    ∙ length-append (numbers_below (32 * place) (is_bit_of words)) _
    ∙ ap (λ n. length (numbers_below (32 * place) (is_bit_of words)) + n)
    (count_bits 32 (32 * place) (get_or words place 0) (is_bit_of words) (narrow_word words place ok below)
    (λ bit low. is_bit_of-at words place bit low))

pub count_below-all : (words members : List ℕ) (place : ℕ) → set_of_words words ≡ members → place ≡ 128
    → count_below words place ≡ length members
unfolding count_below
count_below-all words members place view all = ap (λ p. length (numbers_below (32 * p) (is_bit_of words))) all ∙ ap length view

filter_shorter : (test : ℕ → Bool) (ns : List ℕ) → length (filter test ns) ≤ length ns
filter_shorter test [] = omega arith
filter_shorter test (n ∷ ns) = omega (arith, length-kept test n ns, filter_shorter test ns, at_most_one (test n))

pub count_below-le : (words : List ℕ) (place : ℕ) → count_below words place ≤ 32 * place
unfolding count_below numbers_below
count_below-le words place =
    omega (arith, filter_shorter (is_bit_of words) (range_with_len 0 (32 * place)), length-range_with_len 0 (32 * place))

-- a word more is at most 4,096 numbers
pub count_up_to : (words : List ℕ) (place count : ℕ) → AreWords words → place < 128 → count ≡ count_below words place
    → count + ones (get_or words place 0) ≤ 4096
count_up_to words place count ok below is = omega (arith, count_below-le words (place + 1), count_below-more words place ok below)
