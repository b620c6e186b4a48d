-- Writing the hexadecimal text, word by word from the highest.
use Rattle.std.proofs.Common.{
  ◌≡◌,
  ◌≢◌,
  ℕ,
  zero,
  suc,
  ◌+◌,
  ◌-◌,
  ◌*◌,
  ◌/◌,
  ◌%◌,
  ◌^◌,
  ◌<◌,
  ◌≤◌,
  Bool,
  true,
  false,
  cond,
  ◌==◌,
  List,
  [],
  ◌∷◌,
  ◌++◌,
  length,
  map,
  codes,
  refl,
  sym,
  ap,
  ◌∙◌,
  append_assoc,
  arith,
  bit_and,
}
use Rattle.std.proofs.Math.Nat.{pow-suc, div-div-eq-div-mul, div-one}
use Rattle.std.proofs.Math.Numerals.{add-one}
use Rattle.std.specs.Char.{digit_char}
use Rattle.std.specs.List.{join_with_byte, flat_map}
use Rattle.std.proofs.lemmas.Bool.{ne_eqb}
use Rattle.std.proofs.lemmas.Nat.{and_mask, pow-add}
use Rattle.std.proofs.lemmas.List.{append-nil, length-append}
use Rattle.cpu_set.specs.Bits.{word_of}
use Rattle.cpu_set.specs.Texts.{hex_digits, hex_text, word_text, places_down, highest}

-- ---- digits

pub pow_of_16 : (place : ℕ) → 2 ^ (4 * place) ≡ 16 ^ place
pow_of_16 zero = refl
pow_of_16 (suc place) =
    ap (λ n. 2 ^ n) (let same : 4 * suc place ≡ 4 * place + 4 = omega arith in same) ∙ pow-add 2 (4 * place) 4
    ∙ ap (λ n. n * 16) (pow_of_16 place) ∙ sym (pow-suc 16 place)

shifted : (word place next : ℕ) → next ≡ place + 1 → word / 16 ^ next ≡ word / 16 ^ place / 16
shifted word place next follows =
    ap (λ n. word / 16 ^ n) (follows ∙ add-one place) ∙ ap (λ n. word / n) (pow-suc 16 place)
    ∙ sym (div-div-eq-div-mul word (16 ^ place) 16)

pub nibble : (word place : ℕ) → bit_and (word / 2 ^ (4 * place)) 15 ≡ word / 16 ^ place % 16
nibble word place = and_mask (word / 2 ^ (4 * place)) 4 ∙ ap (λ p. word / p % 16) (pow_of_16 place)

pub hex_digits-none : (number : ℕ) → hex_digits 0 number ≡ []
unfolding hex_digits
hex_digits-none number = refl

pub hex_digits-suc : (count number : ℕ) → hex_digits (suc count) number ≡ hex_digits count (number / 16) ++ digit_char (number % 16) ∷ []
unfolding hex_digits
hex_digits-suc count number = refl

pub length-hex_digits : (count number : ℕ) → length (hex_digits count number) ≡ count
length-hex_digits zero number = ap length (hex_digits-none number)
length-hex_digits (suc count) number =
    ap length (hex_digits-suc count number) ∙ length-append (hex_digits count (number / 16)) _
    ∙ ap (λ m. m + 1) (length-hex_digits count (number / 16)) ∙ add-one count

-- the digits of a number above the last so many are written
pub record DigitsSoFar (old now : List ℕ) (total left number : ℕ) : Type 0 where
  pub is : now ≡ old ++ hex_digits (total - left) (number / 16 ^ left)

pub digits_begin : (old : List ℕ) (total number : ℕ) → DigitsSoFar old old total total number
digits_begin old total number = record {
  is =
      sym (ap (λ count. old ++ hex_digits count (number / 16 ^ total)) (let none : total - total ≡ 0 = omega arith in none)
      ∙ ap (λ digits. old ++ digits) (hex_digits-none (number / 16 ^ total)) ∙ append-nil old);
}

pub digits_push : (old now new : List ℕ) (total left place number digit : ℕ) → left ≡ place + 1 → left ≤ total
    → digit ≡ digit_char (number / 16 ^ place % 16) → new ≡ now ++ digit ∷ [] → DigitsSoFar old now total left number
    → DigitsSoFar old new total place number
digits_push old now new total left place number digit follows within digit_is new_is so_far = record {
  is = new_is ∙ ap (λ d. now ++ d ∷ []) digit_is ∙ ap (λ text. text ++ digit_char (number / 16 ^ place % 16) ∷ []) so_far.is
      ∙ append_assoc old (hex_digits (total - left) (number / 16 ^ left)) _
      ∙ ap (λ n. old ++ (hex_digits (total - left) n ++ digit_char (number / 16 ^ place % 16) ∷ [])) (shifted number place left follows)
      ∙ ap (λ digits. old ++ digits) (sym (hex_digits-suc (total - left) (number / 16 ^ place)))
      ∙ ap (λ count. old ++ hex_digits count (number / 16 ^ place))
      (let one_more : suc (total - left) ≡ total - place = omega arith in one_more);
}

pub digits_end : (old now : List ℕ) (total left number : ℕ) → left ≤ 0 → DigitsSoFar old now total left number → now ≡ old
    ++ hex_digits total number
digits_end old now total left number none so_far =
    let zero_is : left ≡ 0 = omega arith in
    so_far.is ∙ ap (λ n. old ++ hex_digits (total - n) (number / 16 ^ n)) zero_is
    ∙ ap (λ count. old ++ hex_digits count (number / 1)) (let all : total - 0 ≡ total = omega arith in all)
    ∙ ap (λ n. old ++ hex_digits total n) (div-one number)

-- ---- words

-- what the loop of `write_hex` keeps: so many words are still to be written
pub record HexWritten (set : List ℕ) (count left : ℕ) (text : List ℕ) : Type 0 where
  pub begun : left ≡ count → text ≡ []
  pub whole : left < count → text ++ flat_map (λ place. 44 ∷ word_text place (word_of set place)) (places_down left) ≡ hex_text set
  pub bound : length text ≤ 11 * (count - left)

pub hex_begin : (set : List ℕ) (count : ℕ) → HexWritten set count count []
hex_begin set count = record { begun = λ same. refl; whole = λ less. absurd (omega arith); bound = omega arith }

-- parts joined are the first, and the others with a comma before each
pub join_first : (first : List ℕ) (parts : List (List ℕ)) → join_with_byte 44 (first ∷ parts) ≡ first ++ flat_map (λ part. 44 ∷ part) parts
join_first first [] = sym (append-nil first)
join_first first (part ∷ parts) = ap (λ rest. first ++ 44 ∷ rest) (join_first part parts)

pub flat_map-map : {A : Type 0} (f : A → List ℕ) (places : List A)
    → flat_map (λ part. 44 ∷ part) (map f places) ≡ flat_map (λ place. 44 ∷ f place) places
flat_map-map f [] = refl
flat_map-map f (place ∷ places) = ap (λ rest. (44 ∷ f place) ++ rest) (flat_map-map f places)

hex_text_from : (set : List ℕ) (place : ℕ) → suc place ≡ highest set / 32 + 1 → word_text place (word_of set place)
    ++ flat_map (λ p. 44 ∷ word_text p (word_of set p)) (places_down place) ≡ hex_text set
hex_text_from set place top =
    let f = λ (p : ℕ). word_text p (word_of set p) in
    ap (λ rest. f place ++ rest) (sym (flat_map-map f (places_down place))) ∙ sym (join_first (f place) (map f (places_down place)))
    ∙ ap (λ count. join_with_byte 44 (map f (places_down count))) top

short_word : (place word : ℕ) → length (word_text place word) ≤ 10
short_word place word = pick (word == 0) (place == 0)
  where
    pick : (none last : Bool) → length (cond none (cond last (codes "0x0") []) (codes "0x" ++ hex_digits 8 word)) ≤ 10
    pick true true = omega arith
    pick true false = omega arith
    pick false last = omega (arith, length-hex_digits 8 word)

-- the first word, and one behind a comma
pub hex_first : (set : List ℕ) (count left place : ℕ) (text : List ℕ) → count ≡ highest set / 32 + 1 → left ≡ place + 1 → count ≤ left
    → left ≤ count → HexWritten set count left text
    → HexWritten set count place (text ++ word_text place (word_of set place))
hex_first set count left place text top follows at_most at_least written =
    let empty : text ≡ [] = written.begun (omega arith) in
    record {
      begun = λ same. absurd (omega arith);
      whole =
          λ less. ap (λ t. (t ++ word_text place (word_of set place))
          ++ flat_map (λ p. 44 ∷ word_text p (word_of set p)) (places_down place)) empty ∙ hex_text_from set place (omega arith);
      bound = omega (arith, length-append text (word_text place (word_of set place)), short_word place (word_of set place), written.bound);
    }

pub hex_next : (set : List ℕ) (count left place : ℕ) (text : List ℕ) → left ≡ place + 1 → left < count → HexWritten set count left text
    → HexWritten set count place ((text ++ 44 ∷ []) ++ word_text place (word_of set place))
hex_next set count left place text follows less written = record {
  begun = λ same. absurd (omega arith);
  whole = λ below.
      let one = word_text place (word_of set place) in
      let rest = flat_map (λ p. 44 ∷ word_text p (word_of set p)) (places_down place) in
      append_assoc (text ++ 44 ∷ []) one rest ∙ append_assoc text (44 ∷ []) (one ++ rest)
      ∙ ap (λ n. text ++ flat_map (λ p. 44 ∷ word_text p (word_of set p)) (places_down n)) (sym (follows ∙ add-one place))
      ∙ written.whole less;
  bound =
      omega (
        arith,
        length-append (text ++ 44 ∷ []) (word_text place (word_of set place)),
        length-append text (44 ∷ []),
        short_word place
            (word_of set place),
        written.bound,
      );
}

pub hex_written : (set : List ℕ) (count left : ℕ) (text : List ℕ) → count ≡ highest set / 32 + 1 → left ≤ 0 → HexWritten set count left text
    → text ≡ hex_text set
hex_written set count left text top none written =
    sym (append-nil text) ∙ ap (λ n. text ++ flat_map (λ p. 44 ∷ word_text p (word_of set p)) (places_down n))
    (let zero_is : 0 ≡ left = omega arith in zero_is) ∙ written.whole (omega arith)

pub word_len : (place word : ℕ) → word ≢ 0 → 10 ≡ length (word_text place word)
word_len place word some =
    sym (ap (λ t. length (cond t (cond (place == 0) (codes "0x0") []) (codes "0x" ++ hex_digits 8 word))) (ne_eqb word 0 some)
    ∙ ap (λ n. suc (suc n)) (length-hex_digits 8 word))
