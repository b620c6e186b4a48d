-- The head of a section: `worker <place> <length>`, with single spaces. The form is this project's own.
use Rattle.std.specs.Prelude.{ℕ, ◌==◌, ◌^◌, if◌then◌else◌, nat_lt, nat_le, nat_eq, List, length, drop, codes, Option, None}
use Rattle.std.specs.Prelude.{option_map, option_and_then}
use Rattle.std.specs.List.{starts_with}
use Rattle.byte_text.specs.Cuts.{cut}
use Rattle.byte_text.specs.Numerals.{number_below}

-- what a head tells: where its caller stands, as it is written, and how many bytes the section has
pub record Head : Type 0 where
  pub place : List ℕ
  pub size : ℕ

-- a length: one to ten digits, leading zeros allowed
unfoldable pub length_of : List ℕ → Option ℕ
length_of digits = if nat_le (length digits) 10 then number_below (2 ^ 64) digits else None

-- a place, which isn't empty, and a length
abbrev pub head_with : List ℕ → List ℕ → Option Head
head_with place digits =
    if nat_lt 0 (length place) then option_map (λ size. record { place = place; size = size }) (length_of digits) else None

-- what the line of a head tells, whose `\n` is cut off
unfoldable pub head_of : List ℕ → Option Head
head_of line =
    if starts_with nat_eq line (codes "worker ")
    then option_and_then (λ parts. head_with parts.0 parts.1) (cut (λ byte. byte == 32) (drop 7 line))
    else None
