-- Reading a text of hexadecimal words, word by word from the left.
use Rattle.std.proofs.Common.{
  ◌≡◌,
  ℕ,
  suc,
  ◌+◌,
  ◌/◌,
  ◌%◌,
  ◌^◌,
  ◌<◌,
  ◌≤◌,
  Bool,
  true,
  false,
  cond,
  ◌&&◌,
  ◌||◌,
  ◌==◌,
  nat_le,
  List,
  [],
  ◌∷◌,
  length,
  Option,
  Some,
  None,
  lit<,
  refl,
  sym,
  ap,
  ◌∙◌,
  add_assoc,
  arith,
  ◌⊎◌,
  inl,
  inr,
}
use Rattle.std.specs.Borrow.{Bor}
use Rattle.std.specs.Int.{bit_at}
use Rattle.std.specs.List.{count_by}
use Rattle.std.specs.Str.Parse.{AllDigits, digits_value}
use Rattle.std.proofs.Math.Nat.{pow-le-pow_right}
use Rattle.std.proofs.lemmas.Bool.{cases_lt, cases_eq, eq-eqb, ne_eqb, le-leb, lt-leb, and_from, and_parts, and_right}
use Rattle.std.proofs.lemmas.Int.Digits.{digits_value-lt}
use Rattle.std.proofs.lemmas.Nat.Bits.{bit_at-zero}
use Rattle.byte_text.specs.declared.numerals.Numeral.{Numeral}
use Rattle.byte_text.specs.declared.numerals.Numeral.TheVariants.{Number, TooLarge, NotNumeral}
use Rattle.byte_text.specs.Numerals.{Reads, is_numeral}
use Rattle.byte_text.proofs.NumeralLaws.{Decides-is_numeral}
use Rattle.cpu_set.specs.Sets.{has, numbers_where, IsSet}
use Rattle.cpu_set.specs.SetLaws.{has-numbers_below, numbers_below-same, IsSet-numbers_where, numbers_where-has}
use Rattle.cpu_set.specs.Readings.{parts_of, leftmost, without_prefix, word_value, is_word, hex_rule, word_at, is_in_hex}
use Rattle.cpu_set.proofs.PartLemmas.{parts_left, spanned, spanned-parts_of, length-parts_of, leftmost-good}
use Rattle.cpu_set.proofs.SetSteps.{or_false, same_le}

nothing_added : (had here bit : Bool) → bit ≡ false → had ≡ (had || (here && bit))
nothing_added had here bit none = or_false had ∙ ap (λ t. had || t) (sym (and_right here bit none))

-- ---- one word

eight_digits : (digits : List ℕ) → AllDigits 16 digits → length digits ≤ 8 → digits_value 16 digits ≤ 4294967295
eight_digits digits all short =
    let most : 16 ^ length digits ≤ 4294967296 = pow-le-pow_right {n = 16} (lit< tt) short in
    omega (arith, digits_value-lt 16 digits all)

pub is_word-number : (word digits : List ℕ) (n : ℕ) → digits ≡ without_prefix word → length digits ≤ 8
    → Reads 16 4294967295 digits (Number n) → (is_word word ≡ true) × (n ≡ word_value word)
is_word-number word digits n is short reads = (
  and_from (is_numeral 16 (without_prefix word)) (nat_le (length (without_prefix word)) 8)
      (rw (← is) ((Decides-is_numeral 16 digits).1 reads.0)) (rw (← is) (le-leb (length digits) 8 short)),
  sym reads.1 ∙ ap (digits_value 16) is,
)

pub no_number : (word digits : List ℕ) (r : Numeral) → digits ≡ without_prefix word → length digits ≤ 8 → Reads 16 4294967295 digits r
    → (r ≡ TooLarge) ⊎ (r ≡ NotNumeral) → is_word word ≡ true → ⊥
no_number word digits r is short reads (inl large) good =
    let over : Reads 16 4294967295 digits TooLarge = rw large at reads in
    omega (arith, over.1, eight_digits digits over.0.1 short)
no_number word digits r is short reads (inr other) good =
    let lacks : Reads 16 4294967295 digits NotNumeral = rw other at reads in
    lacks ((Decides-is_numeral 16 digits).0
    (rw is ((and_parts (is_numeral 16 (without_prefix word)) (nat_le (length (without_prefix word)) 8) good).0)))

-- ---- the words so far

pub word_at-past : (words : List (List ℕ)) (place : ℕ) → length words ≤ place → word_at words place ≡ 0
word_at-past [] place past = refl
word_at-past (word ∷ words) place past =
    ap (λ t. cond t (word_value word) (word_at words place)) (ne_eqb place (length words) (λ same. omega arith))
    ∙ word_at-past words place (omega arith)

word_at-here : (word : List ℕ) (words : List (List ℕ)) → word_at (word ∷ words) (length words) ≡ word_value word
word_at-here word words = ap (λ t. cond t (word_value word) (word_at words (length words))) (eq-eqb (length words) (length words) refl)

word_at-later : (word : List ℕ) (words : List (List ℕ)) (place : ℕ) → place < length words
    → word_at (word ∷ words) place ≡ word_at words place
word_at-later word words place later =
    ap (λ t. cond t (word_value word) (word_at words place)) (ne_eqb place (length words) (λ same. omega arith))

-- what the loop of `read_words` keeps: so many words are left, and those behind them are in the set
pub record HexSoFar (text : List ℕ) (rest : Option (Bor (List ℕ))) (at left : ℕ) (set : List ℕ) : Type 0 where
  pub count : left ≡ length (parts_left rest)
  pub place : at + spanned (parts_left rest) ≡ length text + 1
  pub fault : leftmost hex_rule at (parts_left rest) ≡ leftmost hex_rule 0 (parts_of text)
  pub words : (place : ℕ) → place < left → word_at (parts_left rest) place ≡ word_at (parts_of text) place
  pub is_set : IsSet set
  pub members : (number : ℕ) → number < 4096 → has set number ≡ (nat_le left (number / 32) && is_in_hex text number)

no_word : (parts : List (List ℕ)) (left number : ℕ) → left ≡ length parts
    → false ≡ (nat_le left (number / 32) && (bit_at (word_at parts (number / 32)) (number % 32) == 1))
no_word parts left number count = elim (cases_lt (number / 32) left) [
  | inl before ↦ ap (λ t. t && (bit_at (word_at parts (number / 32)) (number % 32) == 1)) (sym (lt-leb left (number / 32) before))
  | inr past ↦ sym (ap (λ word. nat_le left (number / 32) && (bit_at word (number % 32) == 1))
      (word_at-past parts (number / 32) (omega arith))
      ∙ ap (λ value. nat_le left (number / 32) && (value == 1)) (bit_at-zero (number % 32))
      ∙ and_right (nat_le left (number / 32)) false refl)
]

pub hex_none : (text : Bor (List ℕ)) (left : ℕ) → left ≡ count_by (λ byte. byte == 44) text.now + 1
    → HexSoFar text.now (Some text) 0 left []
hex_none text left count =
    let all : left ≡ length (parts_of text.now) = count ∙ sym (length-parts_of text.now) in
    record {
      count = all;
      place = (let at : 0 + spanned (parts_of text.now) ≡ length text.now + 1 = omega (arith, spanned-parts_of text.now) in at);
      fault = refl;
      words = λ place below. refl;
      is_set = record { ascending = λ k within. absurd (omega arith); below = λ k d within. absurd (omega arith) };
      members = λ number below. no_word (parts_of text.now) left number all;
    }

-- the part at hand
module _ (text : List ℕ) (rest : Bor (List ℕ)) (at left : ℕ) (set : List ℕ) (word : List ℕ) (behind : Option (Bor (List ℕ)))
    (so_far : HexSoFar text (Some rest) at left set) (first : parts_of rest.now ≡ word ∷ parts_left behind) where
  pub hex_left : left ≡ length (parts_left behind) + 1
  hex_left =
      so_far.count ∙ ap length first ∙ (let suc_is : suc (length (parts_left behind)) ≡ length (parts_left behind) + 1 = omega arith in
      suc_is)

  word_here : (next : ℕ) → next + 1 ≡ left → word_at (parts_of text) next ≡ word_value word
  word_here next is =
      sym (so_far.words next (omega arith)) ∙ ap (λ parts. word_at parts next) first
      ∙ ap (word_at (word ∷ parts_left behind)) (let same : next ≡ length (parts_left behind) = omega (arith, hex_left) in same)
      ∙ word_at-here word (parts_left behind)

  members_more : (next value : ℕ) → next + 1 ≡ left → value ≡ word_value word → (number : ℕ) → number < 4096
      → (has set number || (number / 32 == next && bit_at value (number % 32) == 1)) ≡ (nat_le next (number / 32) && is_in_hex text number)
  members_more next value is value_is number below = elim (cases_eq (number / 32) next) [
    | inl here ↦
        ap (λ t. t || (number / 32 == next && bit_at value (number % 32) == 1)) (so_far.members number below)
        ∙ ap (λ t. (t && is_in_hex text number) || (number / 32 == next && bit_at value (number % 32) == 1))
        (lt-leb left (number / 32) (omega arith))
        ∙ ap (λ t. t && bit_at value (number % 32) == 1) (eq-eqb (number / 32) next here)
        ∙ ap (λ word. bit_at word (number % 32) == 1) (value_is ∙ sym (word_here next is) ∙ ap (word_at (parts_of text)) (sym here))
        ∙ ap (λ t. t && is_in_hex text number) (sym (le-leb next (number / 32) (omega arith)))
    | inr other ↦
        ap (λ t. has set number || (t && bit_at value (number % 32) == 1)) (ne_eqb (number / 32) next other)
        ∙ sym (or_false (has set number)) ∙ so_far.members number below
        ∙ ap (λ t. t && is_in_hex text number) (same_le left (number / 32) next (number / 32) (λ h. omega arith) (λ h. omega arith))
  ]

  step : (next : ℕ) (new : List ℕ) → next + 1 ≡ left → hex_rule at next word ≡ None → IsSet new
      → ((number : ℕ) → number < 4096 → has new number ≡ (nat_le next (number / 32) && is_in_hex text number))
      → HexSoFar text behind (at + (length word + 1)) next new
  step next new is good new_set new_members = record {
    count = omega (arith, hex_left);
    place = omega (arith, so_far.place, ap spanned first);
    fault = ap (λ n. leftmost hex_rule n (parts_left behind)) (sym (add_assoc at (length word) 1))
        ∙ sym (leftmost-good hex_rule at word (parts_left behind)
        (ap (λ n. hex_rule at n word) (let same : length (parts_left behind) ≡ next = omega (arith, hex_left) in same) ∙ good))
        ∙ ap (leftmost hex_rule at) (sym first) ∙ so_far.fault;
    words =
        λ place below. sym (word_at-later word (parts_left behind) place (omega (arith, hex_left)))
        ∙ ap (λ parts. word_at parts place) (sym first) ∙ so_far.words place (omega arith);
    is_set = new_set;
    members = new_members;
  }

  pub hex_added : (next value : ℕ) (new : List ℕ) → next + 1 ≡ left → hex_rule at next word ≡ None → value ≡ word_value word
      → new ≡ numbers_where (λ number. has set number || (number / 32 == next && bit_at value (number % 32) == 1))
      → HexSoFar text behind (at + (length word + 1)) next new
  hex_added next value new is good value_is new_is =
      step next new is good (rw new_is (IsSet-numbers_where
      (λ number. has set number || (number / 32 == next && bit_at value (number % 32) == 1))))
      (λ number below. ap (λ s. has s number) new_is
      ∙ has-numbers_below 4096 (λ n. has set n || (n / 32 == next && bit_at value (n % 32) == 1)) number below
      ∙ members_more next value is value_is number below)

  pub hex_skipped : (next value : ℕ) → next + 1 ≡ left → hex_rule at next word ≡ None → value ≡ word_value word → value ≡ 0
      → HexSoFar text behind (at + (length word + 1)) next set
  hex_skipped next value is good value_is zero_is =
      step next set is good so_far.is_set
      (λ number below. nothing_added (has set number) (number / 32 == next) (bit_at value (number % 32) == 1)
      (ap (λ v. bit_at v (number % 32) == 1) zero_is ∙ ap (λ bit. bit == 1) (bit_at-zero (number % 32)))
      ∙ members_more next value is value_is number below)

pub hex_all : (text : List ℕ) (at left : ℕ) (set : List ℕ) → HexSoFar text None at left set → set ≡ numbers_where (is_in_hex text)
hex_all text at left set so_far =
    sym (numbers_where-has set so_far.is_set)
    ∙ numbers_below-same 4096 (has set) (is_in_hex text)
    (λ number below. so_far.members number below
    ∙ ap (λ t. t && is_in_hex text number) (le-leb left (number / 32) (omega (arith, so_far.count))))

pub hex_all_good : (text : List ℕ) (at left : ℕ) (set : List ℕ) → HexSoFar text None at left set
    → leftmost hex_rule 0 (parts_of text) ≡ None
hex_all_good text at left set so_far = sym so_far.fault
