-- The hexadecimal text of a set is read as that set.
use Rattle.std.proofs.Common.{
  ◌≡◌,
  ◌≢◌,
  ℕ,
  zero,
  suc,
  ◌+◌,
  ◌*◌,
  ◌/◌,
  ◌%◌,
  ◌^◌,
  ◌<◌,
  ◌≤◌,
  Bool,
  true,
  false,
  cond,
  not,
  ◌&&◌,
  ◌||◌,
  ◌==◌,
  nat_lt,
  nat_le,
  nat_eq,
  List,
  [],
  ◌∷◌,
  ◌++◌,
  length,
  map,
  codes,
  Some,
  None,
  refl,
  sym,
  ap,
  ◌∙◌,
  arith,
  ◌⊎◌,
  inl,
  inr,
}
use Rattle.std.proofs.Math.Nat.{pow-suc}
use Rattle.std.proofs.Math.Numerals.{add-one}
use Rattle.std.specs.Char.{digit_char, digit_value}
use Rattle.std.specs.Int.{bit_at}
use Rattle.std.specs.List.{All, AllByRecursion, join_with_byte, starts_with, flat_map}
use Rattle.std.specs.Str.Parse.{AllDigits, digits_value}
use Rattle.std.proofs.lemmas.Bool.{
  cases_lt,
  cases_eq,
  eq-eqb,
  ne_eqb,
  le-leb,
  lt-leb,
  lt-ltb,
  and_from,
  and_left,
  and_right,
  or_left,
  or_right,
  false≢true,
}
use Rattle.std.proofs.lemmas.Int.Digits.{digits_push, digits_value_push}
use Rattle.std.proofs.lemmas.List.Elements.{All-append, All-cons, All-nil}
use Rattle.std.proofs.lemmas.List.Splits.{slice_split_none, slice_split_at}
use Rattle.std.proofs.lemmas.Nat.Bits.{bit_at-zero}
use Rattle.std.proofs.lemmas.Str.{digit_value-digit_char}
use Rattle.cpu_set.specs.declared.fault.SetFault.TheVariants.{Form, TooLarge, Infinite}
use Rattle.cpu_set.specs.Sets.{has, IsSet}
use Rattle.cpu_set.specs.SetLaws.{numbers_below-same, numbers_where-has, has-past}
use Rattle.cpu_set.specs.Bits.{word_of}
use Rattle.cpu_set.specs.WordLaws.{word_of-below, is_bit-word_of}
use Rattle.cpu_set.specs.Texts.{hex_digits, hex_text, word_text, places_down, highest}
use Rattle.byte_text.specs.Numerals.{is_numeral}
use Rattle.byte_text.proofs.NumeralLaws.{Decides-is_numeral}
use Rattle.cpu_set.specs.Readings.{parts_of, leftmost, word_value, is_word, is_gap, hex_rule, hex_fault, word_at, is_in_hex, ReadsHex}
use Rattle.cpu_set.proofs.Ends.{highest-among, highest-above}
use Rattle.cpu_set.proofs.HexSteps.{word_at-past}
use Rattle.cpu_set.proofs.HexText.{hex_digits-none, hex_digits-suc, length-hex_digits, join_first}
use Rattle.cpu_set.proofs.PartLemmas.{leftmost-good}

-- ---- parts joined and split again

abbrev pub NoComma : List ℕ → Type 0
NoComma part = All (λ byte. (byte == 44) ≡ false) part

pub parts_of-join : (first : List ℕ) (parts : List (List ℕ)) → NoComma first → AllByRecursion NoComma parts
    → parts_of (join_with_byte 44 (first ∷ parts)) ≡ first ∷ parts
parts_of-join first [] none rest = slice_split_none (λ byte. byte == 44) first none
parts_of-join first (second ∷ parts) none rest =
    slice_split_at (λ byte. byte == 44) first 44 (join_with_byte 44 (second ∷ parts)) none refl
    ∙ ap (λ ps. first ∷ ps) (parts_of-join second parts rest.0 rest.1)

-- ---- hexadecimal digits

digit_range : (d : ℕ) → d < 16 → 48 ≤ digit_char d
digit_range d low = pick (nat_lt d 10)
  where
    pick : (decimal : Bool) → 48 ≤ cond decimal (48 + d) (87 + d)
    pick true = omega arith
    pick false = omega arith

no_comma : (d : ℕ) → d < 16 → (digit_char d == 44) ≡ false
no_comma d low = ne_eqb (digit_char d) 44 (λ same. omega (arith, digit_range d low))

digits_no_comma : (count number : ℕ) → All (λ byte. (byte == 44) ≡ false) (hex_digits count number)
digits_no_comma zero number = rw (hex_digits-none number) (All-nil (λ byte. (byte == 44) ≡ false))
digits_no_comma (suc count) number = rw (hex_digits-suc count number)
    (All-append (λ byte. (byte == 44) ≡ false) (hex_digits count (number / 16)) _ (digits_no_comma count (number / 16))
    (All-cons (λ byte. (byte == 44) ≡ false) (digit_char (number % 16)) [] (no_comma (number % 16) (omega arith))
    (All-nil (λ byte. (byte == 44) ≡ false))))

digit_of : (number : ℕ) → digit_value (digit_char (number % 16)) ≡ number % 16
digit_of number = digit_value-digit_char (number % 16) (omega arith)

all_hex : (count number : ℕ) → AllDigits 16 (hex_digits count number)
all_hex zero number = rw (hex_digits-none number) tt
all_hex (suc count) number = rw (hex_digits-suc count number)
    (digits_push 16 (hex_digits count (number / 16)) (digit_char (number % 16)) (all_hex count (number / 16))
    (let low : digit_value (digit_char (number % 16)) < 16 = rw (digit_of number) (omega arith) in low))

hex_value : (count number : ℕ) → number < 16 ^ count → digits_value 16 (hex_digits count number) ≡ number
hex_value zero number low = ap (digits_value 16) (hex_digits-none number) ∙ (let none : 0 ≡ number = omega arith in none)
hex_value (suc count) number low =
    ap (digits_value 16) (hex_digits-suc count number) ∙ digits_value_push 16 (hex_digits count (number / 16)) (digit_char (number % 16))
    ∙ ap (λ v. v * 16 + digit_value (digit_char (number % 16))) (hex_value count (number / 16) (omega (arith, pow-suc 16 count)))
    ∙ ap (λ d. number / 16 * 16 + d) (digit_of number) ∙ (let whole : number / 16 * 16 + number % 16 ≡ number = omega arith in whole)

-- ---- one word

text_zero_last : (place word : ℕ) → word ≡ 0 → place ≡ 0 → word_text place word ≡ codes "0x0"
text_zero_last place word none last =
    ap (λ t. cond t (cond (place == 0) (codes "0x0") []) (codes "0x" ++ hex_digits 8 word)) (eq-eqb word 0 none)
    ∙ ap (λ t. cond t (codes "0x0") []) (eq-eqb place 0 last)

text_zero : (place word : ℕ) → word ≡ 0 → place ≢ 0 → word_text place word ≡ []
text_zero place word none other =
    ap (λ t. cond t (cond (place == 0) (codes "0x0") []) (codes "0x" ++ hex_digits 8 word)) (eq-eqb word 0 none)
    ∙ ap (λ t. cond t (codes "0x0") []) (ne_eqb place 0 other)

text_some : (place word : ℕ) → word ≢ 0 → word_text place word ≡ codes "0x" ++ hex_digits 8 word
text_some place word some = ap (λ t. cond t (cond (place == 0) (codes "0x0") []) (codes "0x" ++ hex_digits 8 word)) (ne_eqb word 0 some)

prefix_no_comma : (digits : List ℕ) → NoComma digits → NoComma (48 ∷ 120 ∷ digits)
prefix_no_comma digits none =
    All-cons (λ byte. (byte == 44) ≡ false) 48 (120 ∷ digits) refl (All-cons (λ byte. (byte == 44) ≡ false) 120 digits refl none)

zero_no_comma : NoComma (48 ∷ [])
zero_no_comma = All-cons (λ byte. (byte == 44) ≡ false) 48 [] refl (All-nil (λ byte. (byte == 44) ≡ false))

text_no_comma : (place word : ℕ) → NoComma (word_text place word)
text_no_comma place word = pick (word == 0) (place == 0)
  where
    pick : (none last : Bool) → NoComma (cond none (cond last (codes "0x0") []) (codes "0x" ++ hex_digits 8 word))
    pick true true = prefix_no_comma (48 ∷ []) zero_no_comma
    pick true false = All-nil (λ byte. (byte == 44) ≡ false)
    pick false last = prefix_no_comma (hex_digits 8 word) (digits_no_comma 8 word)

value_back : (place word : ℕ) → word < 2 ^ 32 → word_value (word_text place word) ≡ word
value_back place word narrow = elim (cases_eq word 0) [
  | inl none ↦ elim (cases_eq place 0) [
    | inl last ↦ ap word_value (text_zero_last place word none last) ∙ sym none
    | inr other ↦ ap word_value (text_zero place word none other) ∙ sym none
  ]
  | inr some ↦ ap word_value (text_some place word some) ∙ hex_value 8 word (omega arith)
]

eight_is_word : (word : ℕ) → is_word (48 ∷ 120 ∷ hex_digits 8 word) ≡ true
eight_is_word word =
    and_from (is_numeral 16 (hex_digits 8 word)) (nat_le (length (hex_digits 8 word)) 8)
    ((Decides-is_numeral 16 (hex_digits 8 word)).1 (omega (arith, length-hex_digits 8 word), all_hex 8 word))
    (le-leb (length (hex_digits 8 word)) 8 (omega (arith, length-hex_digits 8 word)))

good_form : (at place word : ℕ) → (word ≢ 0) ⊎ ((place ≡ 0) ⊎ (0 < at))
    → (is_word (word_text place word) || is_gap at place (word_text place word)) ≡ true
good_form at place word shown = elim (cases_eq word 0) [
  | inr some ↦ or_left (is_word (word_text place word)) (is_gap at place (word_text place word))
      (ap is_word (text_some place word some) ∙ eight_is_word word)
  | inl none ↦ elim (cases_eq place 0) [
    | inl last ↦ or_left (is_word (word_text place word)) (is_gap at place (word_text place word))
        (ap is_word (text_zero_last place word none last))
    | inr other ↦ or_right (is_word (word_text place word)) (is_gap at place (word_text place word))
        (ap (is_gap at place) (text_zero place word none other)
        ∙ and_from (nat_lt 0 at) (nat_lt 0 place) (lt-ltb 0 at (begun shown none other)) (lt-ltb 0 place (omega arith)))
  ]
]
  where
    begun : (word ≢ 0) ⊎ ((place ≡ 0) ⊎ (0 < at)) → word ≡ 0 → place ≢ 0 → 0 < at
    begun (inl some) none other = absurd (some none)
    begun (inr (inl last)) none other = absurd (other last)
    begun (inr (inr later)) none other = later

good_word : (at place word : ℕ) → place < 128 → (word ≢ 0) ⊎ ((place ≡ 0) ⊎ (0 < at)) → hex_rule at place (word_text place word) ≡ None
good_word at place word low shown =
    ap (λ t. cond t (cond (nat_le 128 place && not (word_value (word_text place word) == 0)) (Some (TooLarge at)) None) (Some (Form at)))
    (good_form at place word shown)
    ∙ ap (λ t. cond (t && not (word_value (word_text place word) == 0)) (Some (TooLarge at)) None) (lt-leb 128 place low)

-- ---- all words

words_down : List ℕ → ℕ → List (List ℕ)
words_down set count = map (λ place. word_text place (word_of set place)) (places_down count)

module _ (set : List ℕ) where
  length-words_down : (count : ℕ) → length (words_down set count) ≡ count
  unfolding words_down
  length-words_down zero = refl
  length-words_down (suc count) = ap suc (length-words_down count)

  words_down-none : words_down set 0 ≡ []
  unfolding words_down
  words_down-none = refl

  words_down-suc : (count : ℕ) → words_down set (suc count) ≡ word_text count (word_of set count) ∷ words_down set count
  unfolding words_down
  words_down-suc count = refl

  no_commas : (count : ℕ) → AllByRecursion NoComma (words_down set count)
  unfolding words_down
  no_commas zero = tt
  no_commas (suc count) = (text_no_comma count (word_of set count), no_commas count)

  word_at_down : (count place : ℕ) → place < count → word_at (words_down set count) place ≡ word_of set place
  word_at_down zero place below = absurd (omega arith)
  word_at_down (suc count) place below =
      ap (λ words. word_at words place) (words_down-suc count) ∙ elim (cases_eq place count) [
        | inl here ↦ ap (λ t. cond t (word_value (word_text count (word_of set count))) (word_at (words_down set count) place))
            (eq-eqb place (length (words_down set count)) (here ∙ sym (length-words_down count)))
            ∙ value_back count (word_of set count) (word_of-below set count) ∙ ap (word_of set) (sym here)
        | inr other ↦ ap (λ t. cond t (word_value (word_text count (word_of set count))) (word_at (words_down set count) place))
            (ne_eqb place (length (words_down set count)) (λ same. omega (arith, length-words_down count)))
            ∙ word_at_down count place (omega arith)
      ]

  good_here : (at count : ℕ) → count < 128 → (word_of set count ≢ 0) ⊎ ((count ≡ 0) ⊎ (0 < at))
      → leftmost hex_rule at (words_down set (suc count)) ≡ leftmost hex_rule (at + length (word_text count (word_of set count)) + 1)
      (words_down set count)
  good_here at count low shown =
      ap (leftmost hex_rule at) (words_down-suc count)
      ∙ leftmost-good hex_rule at (word_text count (word_of set count)) (words_down set count)
      (ap (λ behind. hex_rule at behind (word_text count (word_of set count))) (length-words_down count)
      ∙ good_word at count (word_of set count) low shown)

  good_down : (at count : ℕ) → 0 < at → count ≤ 128 → leftmost hex_rule at (words_down set count) ≡ None
  good_down at zero later within = ap (leftmost hex_rule at) words_down-none
  good_down at (suc count) later within =
      good_here at count (omega arith) (inr (inr later))
      ∙ good_down (at + length (word_text count (word_of set count)) + 1) count (omega arith) (omega arith)

  good_from_top : (count : ℕ) → count < 128 → (word_of set count ≢ 0) ⊎ (count ≡ 0)
      → leftmost hex_rule 0 (words_down set (suc count)) ≡ None
  good_from_top count low shown =
      good_here 0 count low (elim shown [ inl some ↦ inl some | inr last ↦ inr (inl last) ])
      ∙ good_down (0 + length (word_text count (word_of set count)) + 1) count (omega arith) (omega arith)

-- the highest word isn't zero
top_word : (set : List ℕ) → IsSet set → (word_of set (highest set / 32) ≢ 0) ⊎ (highest set / 32 ≡ 0)
top_word [] ok = inr refl
top_word (first ∷ rest) ok = inl (λ none. false≢true (sym (no_bit none) ∙ its_bit))
  where
    its_bit : (bit_at (word_of (first ∷ rest) (highest (first ∷ rest) / 32)) (highest (first ∷ rest) % 32) == 1) ≡ true
    its_bit = is_bit-word_of (first ∷ rest) (highest (first ∷ rest) / 32) (highest (first ∷ rest) % 32) (omega arith)
        ∙ ap (has (first ∷ rest)) (let same : 32 * (highest (first ∷ rest) / 32) + highest (first ∷ rest) % 32 ≡ highest (first ∷ rest) =
        omega arith in same) ∙ highest-among first rest

    no_bit : word_of (first ∷ rest) (highest (first ∷ rest) / 32) ≡ 0
        → (bit_at (word_of (first ∷ rest) (highest (first ∷ rest) / 32)) (highest (first ∷ rest) % 32) == 1) ≡ false
    no_bit none =
        ap (λ word. bit_at word (highest (first ∷ rest) % 32) == 1) none
        ∙ ap (λ value. value == 1) (bit_at-zero (highest (first ∷ rest) % 32))

below_limit : (set : List ℕ) → IsSet set → highest set < 4096
below_limit [] ok = omega arith
below_limit (first ∷ rest) ok = elim (cases_lt (highest (first ∷ rest)) 4096) [
  | inl low ↦ low
  | inr past ↦ absurd (false≢true (sym (has-past (first ∷ rest) (highest (first ∷ rest)) ok past) ∙ highest-among first rest))
]

-- ---- no text of a set begins as that of an infinite one

-- the third and the fourth byte of a word's text are digits
record TwoDigits (digits : List ℕ) : Type 0 where
  one : ℕ
  two : ℕ
  more : List ℕ
  is : digits ≡ one ∷ two ∷ more
  not_dot : two ≢ 46

two_digits : (count number : ℕ) → TwoDigits (hex_digits (suc (suc count)) number)
two_digits zero number = record {
  one = digit_char (number / 16 % 16);
  two = digit_char (number % 16);
  more = [];
  is =
      hex_digits-suc 1 number ∙ ap (λ digits. digits ++ digit_char (number % 16) ∷ [])
      (hex_digits-suc 0 (number / 16) ∙ ap (λ digits. digits ++ digit_char (number / 16 % 16) ∷ []) (hex_digits-none (number / 16 / 16)));
  not_dot = λ same. omega (arith, digit_range (number % 16) (omega arith));
}
two_digits (suc count) number =
    let front = two_digits count (number / 16) in
    record {
      one = front.one;
      two = front.two;
      more = front.more ++ digit_char (number % 16) ∷ [];
      is = hex_digits-suc (suc (suc count)) number ∙ ap (λ digits. digits ++ digit_char (number % 16) ∷ []) front.is;
      not_dot = front.not_dot;
    }

not_infinite_digits : (digits rest : List ℕ) → TwoDigits digits → starts_with nat_eq ((48 ∷ 120 ∷ digits) ++ rest) (codes "0xf...f") ≡ false
not_infinite_digits digits rest two =
    ap (λ ds. starts_with nat_eq ((48 ∷ 120 ∷ ds) ++ rest) (codes "0xf...f")) two.is
    ∙ and_right (nat_eq 102 two.one) _ (and_left (nat_eq 46 two.two) _ (ne_eqb 46 two.two (λ same. two.not_dot (sym same))))

not_infinite_first : (place word : ℕ) (rest : List ℕ) → (word ≢ 0) ⊎ (place ≡ 0)
    → starts_with nat_eq (word_text place word ++ rest) (codes "0xf...f") ≡ false
not_infinite_first place word rest shown = elim (cases_eq word 0) [
  | inr some ↦ ap (λ text. starts_with nat_eq (text ++ rest) (codes "0xf...f")) (text_some place word some)
      ∙ not_infinite_digits (hex_digits 8 word) rest (two_digits 6 word)
  | inl none ↦ ap (λ text. starts_with nat_eq (text ++ rest) (codes "0xf...f"))
      (text_zero_last place word none (elim shown [ inl some ↦ absurd (some none) | inr last ↦ last ]))
]

module _ (set : List ℕ) (ok : IsSet set) where
  hex_text_is : hex_text set ≡ join_with_byte 44 (words_down set (suc (highest set / 32)))
  unfolding words_down
  hex_text_is =
      ap (λ count. join_with_byte 44 (map (λ place. word_text place (word_of set place)) (places_down count))) (add-one (highest set / 32))

  hex_text_parts : parts_of (hex_text set) ≡ words_down set (suc (highest set / 32))
  hex_text_parts =
      ap parts_of (hex_text_is ∙ ap (join_with_byte 44) (words_down-suc set (highest set / 32)))
      ∙ parts_of-join (word_text (highest set / 32) (word_of set (highest set / 32))) (words_down set (highest set / 32))
      (text_no_comma (highest set / 32) (word_of set (highest set / 32))) (no_commas set (highest set / 32))
      ∙ sym (words_down-suc set (highest set / 32))

  not_infinite : starts_with nat_eq (hex_text set) (codes "0xf...f") ≡ false
  not_infinite =
      ap (λ text. starts_with nat_eq text (codes "0xf...f"))
      (hex_text_is ∙ ap (join_with_byte 44) (words_down-suc set (highest set / 32))
      ∙ join_first (word_text (highest set / 32) (word_of set (highest set / 32))) (words_down set (highest set / 32)))
      ∙ not_infinite_first (highest set / 32) (word_of set (highest set / 32))
      (flat_map (λ part. 44 ∷ part) (words_down set (highest set / 32))) (top_word set ok)

  no_fault : hex_fault (hex_text set) ≡ None
  no_fault =
      ap (λ t. cond t (Some (Infinite 0)) (leftmost hex_rule 0 (parts_of (hex_text set)))) not_infinite
      ∙ ap (leftmost hex_rule 0) hex_text_parts ∙ good_from_top set (highest set / 32) (omega (arith, below_limit set ok)) (top_word set ok)

  same_members : (number : ℕ) → number < 4096 → has set number ≡ is_in_hex (hex_text set) number
  same_members number below =
      sym (ap (λ parts. bit_at (word_at parts (number / 32)) (number % 32) == 1) hex_text_parts
      ∙ elim (cases_lt (number / 32) (suc (highest set / 32))) [
        | inl written ↦ ap (λ word. bit_at word (number % 32) == 1) (word_at_down set (suc (highest set / 32)) (number / 32) written)
            ∙ is_bit-word_of set (number / 32) (number % 32) (omega arith)
            ∙ ap (has set) (let same : 32 * (number / 32) + number % 32 ≡ number = omega arith in same)
        | inr past ↦ ap (λ word. bit_at word (number % 32) == 1)
            (word_at-past (words_down set (suc (highest set / 32))) (number / 32)
            (omega (arith, length-words_down set (suc (highest set / 32)))))
            ∙ ap (λ value. value == 1) (bit_at-zero (number % 32)) ∙ sym (highest-above set ok number (omega arith))
      ])

  pub hex_read_back : ReadsHex (hex_text set) set
  hex_read_back =
      record {
        good = no_fault;
        numbers =
            sym (numbers_where-has set ok) ∙ numbers_below-same 4096 (has set) (is_in_hex (hex_text set)) same_members;
      }
