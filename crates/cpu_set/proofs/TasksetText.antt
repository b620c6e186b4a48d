-- Writing the taskset text, digit by digit from the highest.
use Rattle.std.proofs.Common.{
  ◌≡◌,
  ℕ,
  zero,
  suc,
  ◌+◌,
  ◌*◌,
  ◌/◌,
  ◌%◌,
  ◌^◌,
  ◌<◌,
  ◌≤◌,
  true,
  false,
  cond,
  ◌==◌,
  List,
  [],
  ◌∷◌,
  ◌++◌,
  map,
  codes,
  lit<,
  sym,
  ap,
  ◌∙◌,
  arith,
  inl,
  inr,
  bit_and,
  div-add-mod',
  mod-lt,
}
use Rattle.std.proofs.Math.Nat.{pow-suc, div-div-eq-div-mul, pow-le-pow_right}
use Rattle.std.proofs.Math.Numerals.{add-one}
use Rattle.std.specs.Char.{digit_char}
use Rattle.std.specs.Int.{bit_at}
use Rattle.std.specs.Int.Digits.{digits_of}
use Rattle.std.proofs.lemmas.Bool.{cases_lt, ne_eqb, false≢true}
use Rattle.std.proofs.lemmas.Int.Digits.{digits_of_step}
use Rattle.std.proofs.lemmas.List.{map-append}
use Rattle.std.proofs.lemmas.Nat.{pow-add, pow_pos}
use Rattle.std.proofs.lemmas.Nat.Bits.{bit_at_cat_low, bit_at_above, bit_at-zero}
use Rattle.cpu_set.specs.Sets.{has, IsSet}
use Rattle.cpu_set.specs.Bits.{word_of, mask_of}
use Rattle.cpu_set.specs.WordLaws.{is_bit-number_with_bits, number_with_bits-below, is_bit-word_of, same_from_tests}
use Rattle.cpu_set.specs.Texts.{hex_digits, hex_number, taskset_text, highest}
use Rattle.cpu_set.proofs.Ends.{highest-among, highest-above}
use Rattle.cpu_set.proofs.HexText.{hex_digits-none, hex_digits-suc, pow_of_16, nibble, DigitsSoFar, digits_end}

-- ---- one digit

low_part : (number places bit : ℕ) → bit < places → bit_at (number % 2 ^ places) bit ≡ bit_at number bit
low_part number places bit below =
    sym (bit_at_cat_low (number / 2 ^ places) places (number % 2 ^ places) bit below)
    ∙ ap (λ n. bit_at n bit) (div-add-mod' number (2 ^ places))

low_bits : (number bit : ℕ) → bit < 4 → bit_at (number % 16) bit ≡ bit_at number bit
low_bits number bit below =
    sym (bit_at_cat_low (number / 16) 4 (number % 16) bit below)
    ∙ ap (λ n. bit_at n bit) (let whole : number / 16 * 16 + number % 16 ≡ number = omega arith in whole)

high_bits : (number place bit : ℕ) → bit_at (number / 16 ^ place) bit ≡ bit_at number (4 * place + bit)
high_bits number place bit =
    ap (λ p. bit_at (number / p) bit) (sym (pow_of_16 place))
    ∙ ap (λ n. n % 2) (div-div-eq-div-mul number (2 ^ (4 * place)) (2 ^ bit) ∙ ap (λ p. number / p) (sym (pow-add 2 (4 * place) bit)))

digit_bit : (number place bit : ℕ) → bit < 4 → (bit_at (number / 16 ^ place % 16) bit == 1) ≡ (bit_at number (4 * place + bit) == 1)
digit_bit number place bit below = ap (λ value. value == 1) (low_bits (number / 16 ^ place) bit below ∙ high_bits number place bit)

pub hex_place : (set : List ℕ) (place word : ℕ) → place < 1024 → word ≡ word_of set (place / 8)
    → bit_and (word / 2 ^ (4 * (place % 8))) 15 ≡ mask_of set / 16 ^ place % 16
hex_place set place word below is =
    nibble word (place % 8) ∙ ap (λ w. w / 16 ^ (place % 8) % 16) is
    ∙ same_from_tests 4 (word_of set (place / 8) / 16 ^ (place % 8) % 16) (mask_of set / 16 ^ place % 16) (omega arith) (omega arith)
    (λ bit low.
    digit_bit (word_of set (place / 8)) (place % 8) bit low
    ∙ is_bit-word_of set (place / 8) (4 * (place % 8) + bit) (omega arith)
    ∙ ap (has set) (let same : 32 * (place / 8) + (4 * (place % 8) + bit) ≡ 4 * place + bit = omega arith in same)
    ∙ sym (is_bit-number_with_bits (has set) 4096 (4 * place + bit) (omega arith))
    ∙ sym (digit_bit (mask_of set) place bit low))

-- ---- the digits of a number

sixteens : (count : ℕ) → 1 ≤ 16 ^ count
sixteens count = pow-le-pow_right {n = 16} (lit< tt) {i = 0} {j = count} (omega arith)

digits_of_short : (number : ℕ) → 0 < number → number < 16 → digits_of 16 number ≡ number ∷ []
digits_of_short number some short =
    digits_of_step 16 number (omega arith) some
    ∙ ap (λ n. digits_of 16 n ++ number % 16 ∷ []) (let none : number / 16 ≡ 0 = omega arith in none)
    ∙ ap (λ n. n ∷ []) (let same : number % 16 ≡ number = omega arith in same)

digits_are : (count number : ℕ) → 16 ^ count ≤ number → number < 16 ^ suc count
    → hex_digits (suc count) number ≡ map digit_char (digits_of 16 number)
digits_are zero number low high =
    hex_digits-suc 0 number ∙ ap (λ digits. digits ++ digit_char (number % 16) ∷ []) (hex_digits-none (number / 16))
    ∙ ap (λ n. digit_char n ∷ []) (let same : number % 16 ≡ number = omega arith in same)
    ∙ ap (map digit_char) (sym (digits_of_short number (omega arith) (omega arith)))
digits_are (suc count) number low high =
    hex_digits-suc (suc count) number
    ∙ ap (λ digits. digits ++ digit_char (number % 16) ∷ [])
    (digits_are count (number / 16) (omega (arith, pow-suc 16 count)) (omega (arith, pow-suc 16 (suc count))))
    ∙ sym (map-append digit_char (digits_of 16 (number / 16)) (number % 16 ∷ []))
    ∙ ap (map digit_char) (sym (digits_of_step 16 number (omega arith) (omega (arith, sixteens (suc count)))))

-- ---- how large the number of a set is

-- where no bit from a place on is set, the number is below its power
below_power : (total places number : ℕ) → number < 2 ^ total → places ≤ total
    → ((bit : ℕ) → places ≤ bit → bit < total → (bit_at number bit == 1) ≡ false) → number < 2 ^ places
below_power total places number narrow within none =
    let kept : number % 2 ^ places < 2 ^ places =
    mod-lt number (omega (arith, pow-le-pow_right {n = 2} (lit< tt) {i = 0} {j = places} (omega arith))) in
    let fits : 2 ^ places ≤ 2 ^ total = pow-le-pow_right {n = 2} (lit< tt) within in
    let same : number ≡ number % 2 ^ places =
    same_from_tests total number (number % 2 ^ places) narrow (omega arith) (λ bit below. elim (cases_lt bit places) [
      | inl low ↦ ap (λ value. value == 1) (sym (low_part number places bit low))
      | inr high ↦ none bit high below ∙ sym (ap (λ value. value == 1) (bit_at_above (number % 2 ^ places) places bit kept high))
    ]) in
    omega arith

mask_below : (set : List ℕ) → IsSet set → highest set < 4096 → mask_of set < 16 ^ suc (highest set / 4)
mask_below set ok low =
    let power : 2 ^ (4 * suc (highest set / 4)) ≡ 16 ^ suc (highest set / 4) = pow_of_16 (suc (highest set / 4)) in
    rw (← power) (below_power 4096 (4 * suc (highest set / 4)) (mask_of set) (number_with_bits-below (has set) 4096) (omega arith)
    (λ bit above limit.
    is_bit-number_with_bits (has set) 4096 bit limit ∙ highest-above set ok bit (omega arith)))

-- a number with a bit set is at least its power
at_least_power : (number place : ℕ) → (bit_at number place == 1) ≡ true → 2 ^ place ≤ number
at_least_power number place one = elim (cases_lt number (2 ^ place)) [
  | inl less ↦ absurd (false≢true (sym (ap (λ value. value == 1) (bit_at_above number place place less (omega arith))) ∙ one))
  | inr at_least ↦ at_least
]

mask_above : (set : List ℕ) → has set (highest set) ≡ true → highest set < 4096 → 16 ^ (highest set / 4) ≤ mask_of set
mask_above set among low =
    let top = at_least_power (mask_of set) (highest set) (is_bit-number_with_bits (has set) 4096 (highest set) low ∙ among) in
    let power : 2 ^ (4 * (highest set / 4)) ≡ 16 ^ (highest set / 4) = pow_of_16 (highest set / 4) in
    let fits : 2 ^ (4 * (highest set / 4)) ≤ 2 ^ highest set = pow-le-pow_right {n = 2} (lit< tt) (omega arith) in
    omega arith

mask_empty : mask_of [] ≡ 0
mask_empty =
    same_from_tests 4096 (mask_of []) 0 (number_with_bits-below (has []) 4096) (pow_pos 4096)
    (λ bit below. is_bit-number_with_bits (has []) 4096 bit below ∙ sym (ap (λ value. value == 1) (bit_at-zero bit)))

digits_of_mask : (set : List ℕ) → IsSet set → highest set < 4096 → hex_digits (highest set / 4 + 1) (mask_of set) ≡ hex_number (mask_of set)
digits_of_mask [] ok low =
    ap (hex_digits 1) mask_empty ∙ hex_digits-suc 0 0 ∙ ap (λ digits. digits ++ 48 ∷ []) (hex_digits-none 0)
    ∙ sym (ap hex_number mask_empty)
digits_of_mask (first ∷ rest) ok low =
    let set = first ∷ rest in
    let above = mask_above set (highest-among first rest) low in
    ap (λ count. hex_digits count (mask_of set)) (add-one (highest set / 4))
    ∙ digits_are (highest set / 4) (mask_of set) above (mask_below set ok low)
    ∙ sym (ap (λ t. cond t (codes "0") (map digit_char (digits_of 16 (mask_of set))))
    (ne_eqb (mask_of set) 0 (λ none. omega (arith, sixteens (highest set / 4)))))

pub taskset_written : (set now : List ℕ) (count left : ℕ) → IsSet set → highest set < 4096 → count ≡ highest set / 4 + 1 → left ≤ 0
    → DigitsSoFar (codes "0x") now count left (mask_of set) → now ≡ taskset_text set
taskset_written set now count left ok low is none so_far =
    digits_end (codes "0x") now count left (mask_of set) none so_far
    ∙ ap (λ n. codes "0x" ++ hex_digits n (mask_of set)) is ∙ ap (λ digits. codes "0x" ++ digits) (digits_of_mask set ok low)
