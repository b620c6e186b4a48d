-- What the operations on words do to the set that they stand for.
use Rattle.std.proofs.Common.{
  ◌≡◌,
  ◌≢◌,
  ℕ,
  zero,
  suc,
  ◌+◌,
  ◌-◌,
  ◌*◌,
  ◌/◌,
  ◌%◌,
  ◌^◌,
  ◌<◌,
  ◌≤◌,
  min,
  max,
  Bool,
  true,
  false,
  cond,
  not,
  ◌&&◌,
  ◌||◌,
  ◌==◌,
  nat_lt,
  nat_le,
  List,
  [],
  ◌∷◌,
  length,
  replicate,
  get_or,
  set,
  lit<,
  refl,
  sym,
  ap,
  ◌∙◌,
  arith,
  ◌⊎◌,
  inl,
  inr,
  bit_and,
  bit_or,
  w32,
}
use Rattle.std.specs.Int.{bit_not}
use Rattle.std.specs.Prelude.{bit_xor}
use Rattle.std.specs.Int.{bit_at}
use Rattle.std.specs.List.{Contains}
use Rattle.std.proofs.lemmas.Bool.{cases_lt, cases_eq, eq-eqb, ne_eqb, le-ltb, lt-ltb, le-leb, lt-leb, and_right, cond-true, cond-false}
use Rattle.std.proofs.lemmas.Bool.Decides.{nat_tests, Decides-at}
use Rattle.std.proofs.lemmas.List.{length-replicate, get_or-set_same, get_or-set_other, length-set}
use Rattle.std.proofs.lemmas.List.Elements.{All-replicate, All-get_or, All-from_get_or}
use Rattle.std.proofs.lemmas.Nat.Bits.{
  bit_at-zero,
  bit_at_or,
  ones_shr,
  ones_shl,
  bit_at_ones,
  bit_at_ones_above,
  bit_at_mask_inside,
  bit_at_mask_below,
  bit_at_and,
  bit_at_xor,
  bit_at_not,
  bit_at-lt,
  bit_at-pow_same,
  bit_at-pow_other,
  shr_and_one,
}
use Rattle.std.specs.Bool.{Decides}
use Rattle.std.proofs.lemmas.Nat.{shl_whole, or_lt, xor_lt, and_le_l}
use Rattle.cpu_set.specs.Sets.{has, numbers_below, numbers_where, IsSet, union, minus, meet, xor}
use Rattle.cpu_set.specs.SetLaws.{
  has-numbers_below,
  numbers_below-same,
  IsSet-numbers_where,
  numbers_where-has,
  numbers_below-has,
  Decides-has,
  has-past,
}
use Rattle.cpu_set.specs.Bits.{is_bit_of, AreWords, set_of_words, word_of}
use Rattle.cpu_set.specs.WordLaws.{word_of-set_of_words}

zero_at : (places place : ℕ) → get_or {A = ℕ} (replicate places 0) place 0 ≡ 0
zero_at zero place = refl
zero_at (suc places) zero = refl
zero_at (suc places) (suc place) = zero_at places place

-- the set that words stand for
module _ (words members : List ℕ) (view : set_of_words words ≡ members) where
  pub IsSet-view : IsSet members
  IsSet-view = rw (← view) (IsSet-numbers_where (is_bit_of words))

  pub has-view : (number : ℕ) → number < 4096 → has members number ≡ is_bit_of words number
  has-view number below = rw (← view) (has-numbers_below 4096 (is_bit_of words) number below)

  pub word_of-view : AreWords words → (place : ℕ) → place < 128 → get_or words place 0 ≡ word_of members place
  word_of-view ok place below = rw (← view) (sym (word_of-set_of_words words place ok below))

pub narrow_word : (words : List ℕ) (place : ℕ) → AreWords words → place < 128 → get_or words place 0 < 2 ^ 32
narrow_word words place ok below = All-get_or (λ word. word < 2 ^ 32) words place 0 (omega (arith, ok.count)) ok.narrow

-- ---- the empty set

no_bits : (places place bit : ℕ) → (bit_at (get_or (replicate places 0) place 0) bit == 1) ≡ false
no_bits places place bit =
    let zero_word : get_or (replicate places 0) place 0 ≡ 0 = zero_at places place in
    ap (λ word. bit_at word bit == 1) zero_word ∙ ap (λ value. value == 1) (bit_at-zero bit)

zeros_at : (places number : ℕ) → is_bit_of (replicate places 0) number ≡ false
zeros_at places number = no_bits places (number / 32) (number % 32)

none_is_empty : (limit : ℕ) (test : ℕ → Bool) → ((number : ℕ) → number < limit → test number ≡ false) → numbers_below limit test ≡ []
none_is_empty limit test none =
    numbers_below-same limit test (has []) none
    ∙ numbers_below-has limit [] (λ k within. absurd (omega arith)) (λ k d within. absurd (omega arith))

pub zeros_are_words : AreWords (replicate 128 0)
zeros_are_words = record { count = length-replicate {A = ℕ} 128 0; narrow = All-replicate (λ word. word < 2 ^ 32) 128 0 (lit< tt) }

pub set_of_words-zeros : set_of_words (replicate 128 0) ≡ []
set_of_words-zeros = none_is_empty 4096 (is_bit_of (replicate 128 0)) (λ number below. zeros_at 128 number)

-- ---- a word added

or_tests : (a b : ℕ) → a < 2 → b < 2 → (max a b == 1) ≡ (a == 1 || b == 1)
or_tests a b a_low b_low = grind (arith, nat_tests)

pub and_true : (a : Bool) → (a && true) ≡ a
and_true true = refl
and_true false = refl

pub or_assoc : (a b c : Bool) → ((a || b) || c) ≡ (a || (b || c))
or_assoc true b c = refl
or_assoc false b c = refl

pub or_false : (a : Bool) → a ≡ (a || false)
or_false true = refl
or_false false = refl

test-or : (one other bit : ℕ) → (bit_at (bit_or one other) bit == 1) ≡ (bit_at one bit == 1 || bit_at other bit == 1)
test-or one other bit =
    ap (λ value. value == 1) (bit_at_or one other bit)
    ∙ or_tests (bit_at one bit) (bit_at other bit) (bit_at-lt one bit) (bit_at-lt other bit)

test-set_or : (words : List ℕ) (place word at bit : ℕ) → place < length words
    → (bit_at (get_or (set words place (bit_or (get_or words place 0) word)) at 0) bit == 1)
    ≡ (bit_at (get_or words at 0) bit == 1 || (at == place && bit_at word bit == 1))
test-set_or words place word at bit within = elim (cases_eq at place) [
  | inl same ↦ ap (λ p. bit_at (get_or (set words place (bit_or (get_or words place 0) word)) p 0) bit == 1) same
      ∙ ap (λ w. bit_at w bit == 1) (get_or-set_same words place (bit_or (get_or words place 0) word) 0 within)
      ∙ test-or (get_or words place 0) word bit
      ∙ ap (λ t. bit_at (get_or words place 0) bit == 1 || (t && bit_at word bit == 1)) (sym (eq-eqb place place refl))
      ∙ ap (λ p. bit_at (get_or words p 0) bit == 1 || (p == place && bit_at word bit == 1)) (sym same)
  | inr other ↦ ap (λ w. bit_at w bit == 1) (get_or-set_other words place at (bit_or (get_or words place 0) word) 0 other)
      ∙ or_false (bit_at (get_or words at 0) bit == 1)
      ∙ ap (λ t. bit_at (get_or words at 0) bit == 1 || (t && bit_at word bit == 1)) (sym (ne_eqb at place other))
]

pub set_of_words-or : (words members : List ℕ) (place word : ℕ) → set_of_words words ≡ members → AreWords words → place < 128
    → set_of_words (set words place (bit_or (get_or words place 0) word)) ≡ numbers_where
    (λ number. has members number || (number / 32 == place && bit_at word (number % 32) == 1))
set_of_words-or words members place word view ok below = numbers_below-same 4096 _ _ (λ number low.
    test-set_or words place word (number / 32) (number % 32) (omega (arith, ok.count))
    ∙ ap (λ t. t || (number / 32 == place && bit_at word (number % 32) == 1)) (sym (has-view words members view number low)))

-- ---- a number added

test-pow : (place bit : ℕ) → (bit_at (2 ^ place) bit == 1) ≡ (bit == place)
test-pow place bit = elim (cases_eq bit place) [
  | inl same ↦ ap (λ b. bit_at (2 ^ place) b == 1) same ∙ ap (λ value. value == 1) (bit_at-pow_same place) ∙ sym (eq-eqb bit place same)
  | inr other ↦ ap (λ value. value == 1) (bit_at-pow_other place bit other) ∙ sym (ne_eqb bit place other)
]

same_number : (number other : ℕ) → (number / 32 == other / 32 && number % 32 == other % 32) ≡ (other == number || false)
same_number number other = grind (arith, nat_tests)

pub with_number : (members : List ℕ) (number word : ℕ) → word ≡ 2 ^ (number % 32)
    → numbers_where (λ n. has members n || (n / 32 == number / 32 && bit_at word (n % 32) == 1)) ≡ union members (number ∷ [])
with_number members number word is = numbers_below-same 4096 _ _ (λ n low.
    ap (λ t. has members n || (n / 32 == number / 32 && t)) (ap (λ w. bit_at w (n % 32) == 1) is ∙ test-pow (number % 32) (n % 32))
    ∙ ap (λ t. has members n || t) (same_number n number))

pub one_shifted : (places : ℕ) → places < 32 → 1 * 2 ^ places % 2 ^ 32 ≡ 2 ^ places
one_shifted places below = shl_whole 1 1 places 32 (lit< tt) (omega arith) ∙ (let once : 1 * 2 ^ places ≡ 2 ^ places = omega arith in once)

-- ---- a number looked up

pub Decides-shifted : (words members : List ℕ) (number : ℕ) → set_of_words words ≡ members → number < 4096
    → Decides (bit_and (get_or words (number / 32) 0 / 2 ^ (number % 32)) 1 == 1) (Contains members number)
Decides-shifted words members number view below =
    Decides-at _ (has members number)
    (ap (λ bit. bit == 1) (shr_and_one (get_or words (number / 32) 0) (number % 32)) ∙ sym (has-view words members view number below))
    (Decides-has members number)

pub Decides-past : (members : List ℕ) (number : ℕ) → IsSet members → 4096 ≤ number → Decides (nat_lt number 4096) (Contains members number)
Decides-past members number ok past =
    Decides-at (nat_lt number 4096) (has members number) (le-ltb number 4096 past ∙ sym (has-past members number ok past))
    (Decides-has members number)

-- ---- a run of bits

min_of_tests : (high low : ℕ) (above within : Bool) → high ≡ cond within 1 0 → low ≡ cond above 1 0
    → (min high low == 1) ≡ (above && within)
min_of_tests high low true true high_is low_is = ap (λ n. min n low == 1) high_is ∙ ap (λ n. min 1 n == 1) low_is
min_of_tests high low true false high_is low_is = ap (λ n. min n low == 1) high_is ∙ ap (λ n. min 0 n == 1) low_is
min_of_tests high low false true high_is low_is = ap (λ n. min n low == 1) high_is ∙ ap (λ n. min 1 n == 1) low_is
min_of_tests high low false false high_is low_is = ap (λ n. min n low == 1) high_is ∙ ap (λ n. min 0 n == 1) low_is

bit_up_to : (last bit : ℕ) → last < 32 → bit_at (2 ^ (32 - (31 - last)) - 1) bit ≡ cond (nat_le bit last) 1 0
bit_up_to last bit within = elim (cases_lt last bit) [
  | inl past ↦ bit_at_ones_above (32 - (31 - last)) bit (omega arith) ∙ sym (cond-false (nat_le bit last) 1 0 (lt-leb bit last past))
  | inr inside ↦ bit_at_ones (32 - (31 - last)) bit (omega arith) ∙ sym (cond-true (nat_le bit last) 1 0 (le-leb bit last inside))
]

pub bit_from : (first bit : ℕ) → bit < 32 → bit_at (2 ^ 32 - 2 ^ first) bit ≡ cond (nat_le first bit) 1 0
bit_from first bit below = elim (cases_lt bit first) [
  | inl before ↦ bit_at_mask_below first 32 bit before ∙ sym (cond-false (nat_le first bit) 1 0 (lt-leb first bit before))
  | inr inside ↦ bit_at_mask_inside first 32 bit inside below ∙ sym (cond-true (nat_le first bit) 1 0 (le-leb first bit inside))
]

pub test-ones_between : (first last bit : ℕ) → first ≤ last → last < 32 → bit < 32
    → (bit_at (bit_and (4294967295 / 2 ^ (31 - last)) (4294967295 * 2 ^ first % 4294967296)) bit == 1)
    ≡ (nat_le first bit && nat_le bit last)
test-ones_between first last bit ends within below =
    let high : 4294967295 / 2 ^ (31 - last) ≡ 2 ^ (32 - (31 - last)) - 1 = ones_shr 32 (31 - last) (omega arith) in
    let low : 4294967295 * 2 ^ first % 4294967296 ≡ 2 ^ 32 - 2 ^ first = ones_shl 32 first (omega arith) in
    ap (λ value. value == 1) (bit_at_and (4294967295 / 2 ^ (31 - last)) (4294967295 * 2 ^ first % 4294967296) bit)
    ∙ ap (λ n. min (bit_at n bit) (bit_at (4294967295 * 2 ^ first % 4294967296) bit) == 1) high
    ∙ ap (λ n. min (bit_at (2 ^ (32 - (31 - last)) - 1) bit) (bit_at n bit) == 1) low
    ∙ min_of_tests (bit_at (2 ^ (32 - (31 - last)) - 1) bit) (bit_at (2 ^ 32 - 2 ^ first) bit) (nat_le first bit) (nat_le bit last)
    (bit_up_to last bit within) (bit_from first bit below)

-- ---- a run of numbers added

pub same_le : (a b c d : ℕ) → (a ≤ b → c ≤ d) → (c ≤ d → a ≤ b) → nat_le a b ≡ nat_le c d
same_le a b c d there back = elim (cases_lt b a) [
  | inl less ↦ lt-leb a b less ∙ sym (elim
      (cases_lt d c) [ inl also ↦ lt-leb c d also | inr not_less ↦ absurd (omega (arith, back not_less)) ])
  | inr within ↦ le-leb a b within ∙ sym (le-leb c d (there within))
]

-- the first and the last bit that a run has in a word
abbrev pub FirstBit : ℕ → ℕ → ℕ → Type 0
FirstBit low place first = ((place ≡ low / 32) × (first ≡ low % 32)) ⊎ ((place ≢ low / 32) × (first ≡ 0))

abbrev pub LastBit : ℕ → ℕ → ℕ → Type 0
LastBit high place last = ((place ≡ high / 32) × (last ≡ high % 32)) ⊎ ((place ≢ high / 32) × (last ≡ 31))

first_bit : (low place first number : ℕ) → low / 32 ≤ place → number / 32 ≡ place → FirstBit low place first
    → nat_le first (number % 32) ≡ nat_le low number
first_bit low place first number from there (inl here) =
    same_le first (number % 32) low number (λ h. omega (arith, here.0, here.1)) (λ h. omega (arith, here.0, here.1))
first_bit low place first number from there (inr later) =
    same_le first (number % 32) low number (λ h. omega (arith, later.0, later.1)) (λ h. omega (arith, later.0, later.1))

last_bit : (high place last number : ℕ) → place ≤ high / 32 → number / 32 ≡ place → LastBit high place last
    → nat_le (number % 32) last ≡ nat_le number high
last_bit high place last number to there (inl here) =
    same_le (number % 32) last number high (λ h. omega (arith, here.0, here.1)) (λ h. omega (arith, here.0, here.1))
last_bit high place last number to there (inr earlier) =
    same_le (number % 32) last number high (λ h. omega (arith, earlier.0, earlier.1)) (λ h. omega (arith, earlier.0, earlier.1))

-- a number in the word at hand, and one in another word
join_here : (had inside first last : Bool) → (first && last) ≡ inside
    → ((had || (inside && false)) || (true && (first && last))) ≡ (had || (inside && true))
join_here true inside first last same = refl
join_here false true first last same = same
join_here false false first last same = same

join_other : (had inside done : Bool) (bits : Bool) → ((had || (inside && done)) || (false && bits)) ≡ (had || (inside && done))
join_other true inside done bits = refl
join_other false true true bits = refl
join_other false true false bits = refl
join_other false false done bits = refl

none_yet : (had above below done : Bool) → (above ≡ false) ⊎ (done ≡ false) → had ≡ (had || ((above && below) && done))
none_yet had above below done (inl low) = or_false had ∙ ap (λ t. had || ((t && below) && done)) (sym low)
none_yet had above below done (inr not_done) = or_false had ∙ ap (λ t. had || t) (sym (and_right (above && below) done not_done))

abbrev pub in_range : ℕ → ℕ → ℕ → Bool
in_range low high number = nat_le low number && nat_le number high

-- the set so far has the numbers of the run in the words below the place
abbrev pub has_below_place : List ℕ → ℕ → ℕ → ℕ → ℕ → Bool
has_below_place members low high place number = has members number || (in_range low high number && nat_lt (number / 32) place)

run_step : (members : List ℕ) (low high place first last number : ℕ) → low / 32 ≤ place → place ≤ high / 32 → FirstBit low place first
    → LastBit high place last
    → (has_below_place members low high place number || (number / 32 == place && (nat_le first (number % 32) && nat_le (number % 32) last)))
    ≡ has_below_place members low high (place + 1) number
run_step members low high place first last number from to first_is last_is = elim (cases_eq (number / 32) place) [
  | inl here ↦
      let not_done = le-ltb (number / 32) place (omega arith) in
      let done = lt-ltb (number / 32) (place + 1) (omega arith) in
      ap (λ t. (has members number || (in_range low high number && t))
      || (number / 32 == place && (nat_le first (number % 32) && nat_le (number % 32) last))) not_done
      ∙ ap (λ t. (has members number || (in_range low high number && false))
      || (t && (nat_le first (number % 32) && nat_le (number % 32) last))) (eq-eqb (number / 32) place here)
      ∙ join_here (has members number) (in_range low high number) (nat_le first (number % 32)) (nat_le (number % 32) last)
      (ap (λ t. t && nat_le (number % 32) last) (first_bit low place first number from here first_is)
      ∙ ap (λ t. nat_le low number && t) (last_bit high place last number to here last_is))
      ∙ ap (λ t. has members number || (in_range low high number && t)) (sym done)
  | inr other ↦
      let same : nat_lt (number / 32) place ≡ nat_lt (number / 32) (place + 1) =
      same_le (suc (number / 32)) place (suc (number / 32)) (place + 1) (λ h. omega arith) (λ h. omega arith) in
      ap (λ t. has_below_place members low high place number || (t && (nat_le first (number % 32) && nat_le (number % 32) last)))
      (ne_eqb (number / 32) place other)
      ∙ join_other (has members number) (in_range low high number) (nat_lt (number / 32) place)
      (nat_le first (number % 32) && nat_le (number % 32) last)
      ∙ ap (λ t. has members number || (in_range low high number && t)) same
]

-- what the loop of `add_range` keeps, where it began with the members
pub record RangeAdded (members now : List ℕ) (low high place : ℕ) : Type 0 where
  pub has_so_far : (number : ℕ) → number < 4096 → has now number ≡ has_below_place members low high place number
  pub is_set : low / 32 < place → IsSet now

either : (low number : ℕ) → (nat_le low number ≡ false) ⊎ (nat_lt (number / 32) (low / 32) ≡ false)
either low number =
    elim (cases_lt (number / 32) (low / 32))
    [ inl before ↦ inl (lt-leb low number (omega arith)) | inr from ↦ inr (le-ltb (number / 32) (low / 32) from) ]

all_done : (had above below done : Bool) → (below ≡ false) ⊎ (done ≡ true) → (had || ((above && below) && done)) ≡ (had || (above && below))
all_done had above below done (inl past) =
    ap (λ t. had || ((above && t) && done)) past ∙ ap (λ t. had || (t && done)) (and_right above false refl)
    ∙ ap (λ t. had || t) (sym (and_right above below past))
all_done had above below done (inr all) = ap (λ t. had || ((above && below) && t)) all ∙ ap (λ t. had || t) (and_true (above && below))

pub range_none : (members : List ℕ) (low high : ℕ) → RangeAdded members members low high (low / 32)
range_none members low high = record {
  has_so_far =
      λ number below. none_yet (has members number) (nat_le low number) (nat_le number high) (nat_lt (number / 32) (low / 32))
      (either low number);
  is_set = λ h. absurd (omega arith);
}

pub range_more : (members now new : List ℕ) (low high place first last word : ℕ) → RangeAdded members now low high place
    → low / 32 ≤ place → place ≤ high / 32 → FirstBit low place first → LastBit high place last
    → ((bit : ℕ) → bit < 32 → (bit_at word bit == 1) ≡ (nat_le first bit && nat_le bit last))
    → new ≡ numbers_where (λ number. has now number || (number / 32 == place && bit_at word (number % 32) == 1))
    → RangeAdded members new low high (place + 1)
range_more members now new low high place first last word so_far from to first_is last_is bits is = record {
  has_so_far = λ number below.
      ap (λ s. has s number) is
      ∙ has-numbers_below 4096 (λ n. has now n || (n / 32 == place && bit_at word (n % 32) == 1)) number below
      ∙ ap (λ t. t || (number / 32 == place && bit_at word (number % 32) == 1)) (so_far.has_so_far number below)
      ∙ ap (λ t. has_below_place members low high place number || (number / 32 == place && t)) (bits (number % 32) (omega arith))
      ∙ run_step members low high place first last number from to first_is last_is;
  is_set = λ h. rw is (IsSet-numbers_where (λ n. has now n || (n / 32 == place && bit_at word (n % 32) == 1)));
}

ended : (number high place : ℕ) → high / 32 + 1 ≤ place → (nat_le number high ≡ false) ⊎ (nat_lt (number / 32) place ≡ true)
ended number high place all =
    elim (cases_lt high number) [ inl past ↦ inl (lt-leb number high past) | inr within ↦ inr (lt-ltb (number / 32) place (omega arith)) ]

pub range_all : (members now : List ℕ) (low high place : ℕ) → low ≤ high → high / 32 + 1 ≤ place → RangeAdded members now low high place
    → now ≡ numbers_where (λ number. has members number || (nat_le low number && nat_le number high))
range_all members now low high place ends all added =
    sym (numbers_where-has now (added.is_set (omega arith)))
    ∙ numbers_below-same 4096 _ _ (λ number below. added.has_so_far number below
    ∙ all_done (has members number) (nat_le low number) (nat_le number high) (nat_lt (number / 32) place) (ended number high place all))

-- ---- two sets, word by word

-- the first so many words are combined, and the others are still those of the first set
pub record CombinedBelow (combine : ℕ → ℕ → ℕ) (ones others now : List ℕ) (place : ℕ) : Type 0 where
  pub count : length now ≡ 128
  pub done : (k : ℕ) → k < place → get_or now k 0 ≡ combine (get_or ones k 0) (get_or others k 0)
  pub rest : (k : ℕ) → place ≤ k → get_or now k 0 ≡ get_or ones k 0

pub combined_none : (combine : ℕ → ℕ → ℕ) (ones others : List ℕ) → AreWords ones → CombinedBelow combine ones others ones 0
combined_none combine ones others ok = record { count = ok.count; done = λ k h. absurd (omega arith); rest = λ k h. refl }

pub combined_more : (combine : ℕ → ℕ → ℕ) (ones others now : List ℕ) (place : ℕ) → CombinedBelow combine ones others now place → place < 128
    → CombinedBelow combine ones others (set now place (combine (get_or now place 0) (get_or others place 0))) (place + 1)
combined_more combine ones others now place so_far below = record {
  count = length-set now place _ ∙ so_far.count;
  done = λ k h. elim (cases_eq k place) [
    | inl here ↦ ap (λ p. get_or (set now place (combine (get_or now place 0) (get_or others place 0))) p 0) here
        ∙ get_or-set_same now place _ 0 (omega (arith, so_far.count))
        ∙ ap (λ w. combine w (get_or others place 0)) (so_far.rest place (omega arith))
        ∙ ap (λ p. combine (get_or ones p 0) (get_or others p 0)) (sym here)
    | inr other ↦ get_or-set_other now place k _ 0 other ∙ so_far.done k (omega arith)
  ];
  rest = λ k h. get_or-set_other now place k _ 0 (λ same. omega arith) ∙ so_far.rest k (omega arith);
}

-- the combined words stand for the numbers that the test of their bits keeps
pub combined_all : (combine : ℕ → ℕ → ℕ) (test : Bool → Bool → Bool)
    → ((one other bit : ℕ) → one < 2 ^ 32 → other < 2 ^ 32 → bit < 32
    → (bit_at (combine one other) bit == 1) ≡ test (bit_at one bit == 1) (bit_at other bit == 1))
    → (ones others now one_set other_set : List ℕ) (place : ℕ) → AreWords ones → AreWords others → set_of_words ones ≡ one_set
    → set_of_words others ≡ other_set → 128 ≤ place → CombinedBelow combine ones others now place
    → set_of_words now ≡ numbers_where (λ number. test (has one_set number) (has other_set number))
combined_all combine test bits ones others now one_set other_set place are_ones are_others one_view other_view all combined =
    numbers_below-same 4096 _ _ (λ number below.
    ap (λ word. bit_at word (number % 32) == 1) (combined.done (number / 32) (omega arith))
    ∙ bits (get_or ones (number / 32) 0) (get_or others (number / 32) 0) (number % 32)
    (narrow_word ones (number / 32) are_ones (omega arith)) (narrow_word others (number / 32) are_others (omega arith)) (omega arith)
    ∙ ap (λ t. test t (is_bit_of others number)) (sym (has-view ones one_set one_view number below))
    ∙ ap (λ t. test (has one_set number) t) (sym (has-view others other_set other_view number below)))

pub combined_words : (combine : ℕ → ℕ → ℕ) → ((one other : ℕ) → one < 2 ^ 32 → other < 2 ^ 32 → combine one other < 2 ^ 32)
    → (ones others now : List ℕ) (place : ℕ) → AreWords ones → AreWords others → 128 ≤ place → CombinedBelow combine ones others now place
    → AreWords now
combined_words combine narrow ones others now place are_ones are_others all combined = record {
  count = combined.count;
  narrow = All-from_get_or (λ word. word < 2 ^ 32) now 0 (λ k h. rw (combined.done k (omega (arith, combined.count)))
      (narrow (get_or ones k 0) (get_or others k 0) (narrow_word ones k are_ones (omega (arith, combined.count)))
      (narrow_word others k are_others (omega (arith, combined.count)))));
}

-- the four ways
and_tests : (a b : ℕ) → a < 2 → b < 2 → (min a b == 1) ≡ (a == 1 && b == 1)
and_tests a b a_low b_low = grind (arith, nat_tests)

pub test-and : (one other bit : ℕ) → (bit_at (bit_and one other) bit == 1) ≡ (bit_at one bit == 1 && bit_at other bit == 1)
test-and one other bit =
    ap (λ value. value == 1) (bit_at_and one other bit)
    ∙ and_tests (bit_at one bit) (bit_at other bit) (bit_at-lt one bit) (bit_at-lt other bit)

xor_tests : (a b : ℕ) → a < 2 → b < 2 → ((a + b) % 2 == 1) ≡ ((a == 1 && not (b == 1)) || (b == 1 && not (a == 1)))
xor_tests a b a_low b_low = grind (arith, nat_tests)

pub test-xor : (one other bit : ℕ) → (bit_at (bit_xor one other) bit == 1)
    ≡ ((bit_at one bit == 1 && not (bit_at other bit == 1)) || (bit_at other bit == 1 && not (bit_at one bit == 1)))
test-xor one other bit =
    ap (λ value. value == 1) (bit_at_xor one other bit)
    ∙ xor_tests (bit_at one bit) (bit_at other bit) (bit_at-lt one bit) (bit_at-lt other bit)

not_test : (a : ℕ) → a < 2 → (1 - a == 1) ≡ not (a == 1)
not_test a low = grind (arith, nat_tests)

pub test-not : (word bit : ℕ) → word < 2 ^ 32 → bit < 32 → (bit_at (bit_not w32 word) bit == 1) ≡ not (bit_at word bit == 1)
test-not word bit narrow below =
    ap (λ value. value == 1) (bit_at_not w32 word bit narrow below) ∙ not_test (bit_at word bit) (bit_at-lt word bit)

pub test-and_not : (one other bit : ℕ) → other < 2 ^ 32 → bit < 32
    → (bit_at (bit_and one (bit_not w32 other)) bit == 1) ≡ (bit_at one bit == 1 && not (bit_at other bit == 1))
test-and_not one other bit narrow below =
    test-and one (bit_not w32 other) bit ∙ ap (λ t. bit_at one bit == 1 && t) (test-not other bit narrow below)

-- the one word without the bits of the other
abbrev pub and_not : ℕ → ℕ → ℕ
and_not one other = bit_and one (bit_not w32 other)

and_narrow : (one other : ℕ) → one < 2 ^ 32 → other < 2 ^ 32 → bit_and one other < 2 ^ 32
and_narrow one other one_narrow other_narrow = omega (arith, and_le_l one other)

and_not_narrow : (one other : ℕ) → one < 2 ^ 32 → other < 2 ^ 32 → bit_and one (bit_not w32 other) < 2 ^ 32
and_not_narrow one other one_narrow other_narrow = omega (arith, and_le_l one (bit_not w32 other))

-- what the four operations leave
module _ (ones others now one_set other_set : List ℕ) (place : ℕ) (are_ones : AreWords ones) (are_others : AreWords others)
    (one_view : set_of_words ones ≡ one_set) (other_view : set_of_words others ≡ other_set) (all : 128 ≤ place) where
  pub union_words : CombinedBelow bit_or ones others now place → AreWords now
  union_words = combined_words bit_or (λ one other. or_lt 32 one other) ones others now place are_ones are_others all

  pub union_all : CombinedBelow bit_or ones others now place → set_of_words now ≡ union one_set other_set
  union_all =
      combined_all bit_or (λ a b. a || b)
      (λ one other bit one_narrow other_narrow below. test-or one other bit) ones others now one_set other_set place are_ones are_others
      one_view other_view all

  pub meet_words : CombinedBelow bit_and ones others now place → AreWords now
  meet_words = combined_words bit_and (λ one other. and_narrow one other) ones others now place are_ones are_others all

  pub meet_all : CombinedBelow bit_and ones others now place → set_of_words now ≡ meet one_set other_set
  meet_all =
      combined_all bit_and (λ a b. a && b)
      (λ one other bit one_narrow other_narrow below. test-and one other bit) ones others now one_set other_set place are_ones are_others
      one_view other_view all

  pub xor_words : CombinedBelow bit_xor ones others now place → AreWords now
  xor_words = combined_words bit_xor (λ one other. xor_lt 32 one other) ones others now place are_ones are_others all

  pub xor_all : CombinedBelow bit_xor ones others now place → set_of_words now ≡ xor one_set other_set
  xor_all =
      combined_all bit_xor (λ a b. (a && not b) || (b && not a))
      (λ one other bit one_narrow other_narrow below. test-xor one other bit) ones others now one_set other_set place are_ones are_others
      one_view other_view all

  pub minus_words : CombinedBelow and_not ones others now place → AreWords now
  minus_words = combined_words and_not (λ one other. and_not_narrow one other) ones others now place are_ones are_others all

  pub minus_all : CombinedBelow and_not ones others now place → set_of_words now ≡ minus one_set other_set
  minus_all =
      combined_all and_not (λ a b. a && not b)
      (λ one other bit one_narrow other_narrow below. test-and_not one other bit other_narrow below) ones others now one_set other_set place
      are_ones are_others one_view other_view all
