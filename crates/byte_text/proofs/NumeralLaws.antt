-- Laws of numerals: each test tells them, and what `number_where`, `number_in` and `number_capped` say of a text.
use Rattle.std.proofs.Common.{
  ◌≡◌,
  ◌≤◌,
  ◌<◌,
  ◌-◌,
  ◌^◌,
  ◌&&◌,
  ℕ,
  Bool,
  true,
  false,
  nat_lt,
  nat_le,
  min,
  List,
  [],
  ◌∷◌,
  length,
  Some,
  None,
  refl,
  arith,
}
use Rattle.std.specs.Bool.{Decides}
use Rattle.std.specs.Char.{digit_value}
use Rattle.std.specs.List.{list_all}
use Rattle.std.specs.Str.Parse.{IsNumeral, AllDigits, digits_value}
use Rattle.std.proofs.lemmas.Bool.{and_right, and_from, cond-false, false_from_ne_true, le-leb, lt-leb, lt-ltb, le-ltb}
use Rattle.std.proofs.lemmas.Bool.Decides.{Decides-and, Decides-ltb}
use Rattle.byte_text.specs.Numerals.{is_numeral, is_decimal, number_where, number_below, number_in, number_capped}

-- ---- numerals in a base

all_digits : (radix : ℕ) (text : List ℕ) → Decides (list_all (λ byte. nat_lt (digit_value byte) radix) text) (AllDigits radix text)
all_digits radix [] = (λ _. tt, λ _. refl)
all_digits radix (byte ∷ bytes) =
    Decides-and (nat_lt (digit_value byte) radix) (list_all (λ b. nat_lt (digit_value b) radix) bytes)
    (Decides-ltb (digit_value byte) radix) (all_digits radix bytes)

pub Decides-is_numeral : (radix : ℕ) (text : List ℕ) → Decides (is_numeral radix text) (IsNumeral radix text)
Decides-is_numeral radix text =
    Decides-and (nat_lt 0 (length text)) (list_all (λ byte. nat_lt (digit_value byte) radix) text) (Decides-ltb 0 (length text))
    (all_digits radix text)

-- ---- decimal numerals

pub Decides-is_decimal : (text : List ℕ) → Decides (is_decimal text) (IsNumeral 10 text)
Decides-is_decimal text = Decides-is_numeral 10 text

pub no_decimal : (text : List ℕ) → ¬ (IsNumeral 10 text) → is_decimal text ≡ false
no_decimal text lacks = false_from_ne_true (is_decimal text) (λ found. lacks ((Decides-is_decimal text).0 found))

-- ---- the number of a text

pub number_passes : (test : ℕ → Bool) (n : ℕ) (text : List ℕ) → IsNumeral 10 text → digits_value 10 text ≡ n → test n ≡ true
    → number_where test text ≡ Some n
number_passes test n text numeral value passes = rw (value, (Decides-is_decimal text).1 numeral, passes) refl

pub number_fails : (test : ℕ → Bool) (text : List ℕ) → test (digits_value 10 text) ≡ false → number_where test text ≡ None
number_fails test text fails =
    cond-false _ (Some (digits_value 10 text)) None (and_right (is_decimal text) (test (digits_value 10 text)) fails)

pub number_lacks : (test : ℕ → Bool) (text : List ℕ) → ¬ (IsNumeral 10 text) → number_where test text ≡ None
number_lacks test text lacks = rw (no_decimal text lacks) refl

-- ---- numbers within limits

pub below_limit : (limit n : ℕ) (text : List ℕ) → IsNumeral 10 text → digits_value 10 text ≡ n → n < limit
    → number_below limit text ≡ Some n
unfolding number_below
below_limit limit n text numeral value below = number_passes (λ m. nat_lt m limit) n text numeral value (lt-ltb n limit below)

pub from_limit : (limit : ℕ) (text : List ℕ) → limit ≤ digits_value 10 text → number_below limit text ≡ None
unfolding number_below
from_limit limit text over = number_fails (λ m. nat_lt m limit) text (le-ltb (digits_value 10 text) limit over)

pub none_below : (limit : ℕ) (text : List ℕ) → ¬ (IsNumeral 10 text) → number_below limit text ≡ None
unfolding number_below
none_below limit text lacks = number_lacks (λ m. nat_lt m limit) text lacks

pub in_range : (low high n : ℕ) (text : List ℕ) → IsNumeral 10 text → digits_value 10 text ≡ n → low ≤ n → n ≤ high
    → number_in low high text ≡ Some n
unfolding number_in
in_range low high n text h e above below =
    number_passes (λ m. nat_le low m && nat_le m high) n text h e
    (and_from (nat_le low n) (nat_le n high) (le-leb low n above) (le-leb n high below))

pub under_range : (low high n : ℕ) (text : List ℕ) → IsNumeral 10 text → digits_value 10 text ≡ n → n < low → number_in low high text ≡ None
unfolding number_in
under_range low high n text h e below = number_fails (λ m. nat_le low m && nat_le m high) text (rw (e, lt-leb low n below) refl)

pub over_range : (low high : ℕ) (text : List ℕ) → high < digits_value 10 text → number_in low high text ≡ None
unfolding number_in
over_range low high text above =
    number_fails (λ m. nat_le low m && nat_le m high) text (and_right _ _ (lt-leb (digits_value 10 text) high above))

pub no_number : (low high : ℕ) (text : List ℕ) → ¬ (IsNumeral 10 text) → number_in low high text ≡ None
unfolding number_in
no_number low high text h = number_lacks (λ m. nat_le low m && nat_le m high) text h

pub capped_is : (n : ℕ) (text : List ℕ) → IsNumeral 10 text → digits_value 10 text ≡ n → n ≤ 4294967295 → number_capped text ≡ Some n
unfolding number_capped
capped_is n text h e below = let m : min n (2 ^ 32 - 1) ≡ n = omega arith in rw (e, (Decides-is_decimal text).1 h, m) refl

pub capped_over : (text : List ℕ) → IsNumeral 10 text → 4294967295 < digits_value 10 text → number_capped text ≡ Some 4294967295
unfolding number_capped
capped_over text h above =
    let m : min (digits_value 10 text) (2 ^ 32 - 1) ≡ 4294967295 = omega arith in rw ((Decides-is_decimal text).1 h, m) refl

pub capped_none : (text : List ℕ) → ¬ (IsNumeral 10 text) → number_capped text ≡ None
unfolding number_capped
capped_none text h = rw (no_decimal text h) refl
