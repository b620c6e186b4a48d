-- An input with a printed text behind it. The form is this project's own.
use Rattle.std.specs.Prelude.{◌≡◌, ℕ, ◌+◌, List, ◌∷◌, ◌++◌, length, drop, codes, Option, Some, None, nat_le, nat_eq, if◌then◌else◌}
use Rattle.std.specs.List.{starts_with}
use Rattle.byte_text.specs.Cuts.{IsCutAt}
use Rattle.byte_text.specs.Numerals.{number_below}
use Rattle.run_faults.specs.declared.fault.CheckFault.{CheckFault}
use Rattle.run_faults.specs.declared.fault.CheckFault.TheVariants.{BadHead, Short}

-- how many bytes an input may have
abbrev pub input_limit : ℕ
input_limit = 16777216

-- a length: one to ten digits, leading zeros allowed, and a number within the limit
unfoldable pub length_of : List ℕ → Option ℕ
length_of digits = if nat_le (length digits) 10 then number_below (input_limit + 1) digits else None

-- how many bytes the line of a head tells, whose `\n` is cut off
unfoldable pub size_of : List ℕ → Option ℕ
size_of line = if starts_with nat_eq line (codes "input ") then length_of (drop 6 line) else None

-- the first line of the bytes is a head that tells this size
pub record HasHead (bytes : List ℕ) (size : ℕ) : Type 0 where
  pub line : List ℕ
  pub behind : List ℕ
  pub cut : IsCutAt 10 bytes line behind
  pub size_is : size_of line ≡ Some size

-- the bytes are a head, an input of the size that it tells, a line end, and a printed text
pub record ArePair (bytes input printed : List ℕ) : Type 0 where
  pub line : List ℕ
  pub cut : IsCutAt 10 bytes line (input ++ 10 ∷ printed)
  pub size_is : size_of line ≡ Some (length input)

-- why they are none: the first line is no head; or it is one, and what it tells doesn't stand behind it
abbrev pub IsRefused : List ℕ → CheckFault → Type 0
IsRefused bytes BadHead = (size : ℕ) → HasHead bytes size → ⊥
IsRefused bytes Short =
    ((size : ℕ) × HasHead bytes size) × ((input printed : List ℕ) → ArePair bytes input printed → ⊥)
