-- What a text says as a number in a base, up to a limit, and as a decimal number within limits.
use Rattle.std.specs.Prelude.{
  ◌≡◌,
  ◌≤◌,
  ◌<◌,
  ◌+◌,
  ◌-◌,
  ◌^◌,
  ℕ,
  Bool,
  ◌&&◌,
  List,
  length,
  Option,
  Some,
  None,
  nat_lt,
  nat_le,
  min,
  if◌then◌else◌,
}
use Rattle.std.specs.Char.{digit_value}
use Rattle.std.specs.List.{list_all}
use Rattle.std.specs.Str.Parse.{IsNumeral, digits_value}
use Rattle.byte_text.specs.declared.numerals.Numeral.{Numeral}
use Rattle.byte_text.specs.declared.numerals.Numeral.TheVariants.{Number, TooLarge, NotNumeral}

-- what the text says: its number, that its number is over the limit, or that it is no numeral
abbrev pub Reads : ℕ → ℕ → List ℕ → Numeral → Type 0
Reads radix limit text (Number n) = IsNumeral radix text × (digits_value radix text ≡ n) × (n ≤ limit)
Reads radix limit text TooLarge = IsNumeral radix text × (limit < digits_value radix text)
Reads radix limit text NotNumeral = ¬ (IsNumeral radix text)

-- the test for a numeral: one digit or more of the base, and nothing else
abbrev pub is_numeral : ℕ → List ℕ → Bool
is_numeral radix text = nat_lt 0 (length text) && list_all (λ byte. nat_lt (digit_value byte) radix) text

-- the test for a decimal numeral
abbrev pub is_decimal : List ℕ → Bool
is_decimal text = is_numeral 10 text

-- the number of a decimal numeral, where it passes a test
abbrev pub number_where : (ℕ → Bool) → List ℕ → Option ℕ
number_where test text = if is_decimal text && test (digits_value 10 text) then Some (digits_value 10 text) else None

-- the number of a decimal numeral, where it is below a limit
unfoldable pub number_below : ℕ → List ℕ → Option ℕ
number_below limit text = number_where (λ n. nat_lt n limit) text

-- the number of a decimal numeral, where it is from low to high
unfoldable pub number_in : ℕ → ℕ → List ℕ → Option ℕ
number_in low high text = number_where (λ n. nat_le low n && nat_le n high) text

-- the number of a decimal numeral, where 4,294,967,295 stands for each number over it
unfoldable pub number_capped : List ℕ → Option ℕ
number_capped text = if is_decimal text then Some (min (digits_value 10 text) (2 ^ 32 - 1)) else None

-- the digit of a number below 16, in lower case
abbrev pub lower_hex_digit : ℕ → ℕ
lower_hex_digit n = if nat_lt n 10 then 48 + n else 87 + n
