-- The hold that the line of a turn tells.
use Rattle.std.specs.Prelude.{ℕ, zero, suc, ◌^◌, ◌==◌, List, Option, Some, option_map, option_and_then}
use Rattle.byte_text.specs.Cuts.{cut}
use Rattle.byte_text.specs.Numerals.{number_below}
use Rattle.run_texts.specs.Text.{Hold}
use Rattle.run_check.specs.declared.reading.Hold as read

-- what stands before the first space of a text, and what stands behind it
abbrev pub at_space : List ℕ → Option (List ℕ × List ℕ)
at_space text = cut (λ byte. byte == 32) text

-- what stands behind so many spaces
abbrev pub behind_spaces : ℕ → List ℕ → Option (List ℕ)
behind_spaces zero text = Some text
behind_spaces (suc n) text = option_and_then (λ parts. behind_spaces n parts.1) (at_space text)

-- the number that stands behind so many spaces, up to the next one
unfoldable pub number_at : ℕ → List ℕ → Option ℕ
number_at spaces text =
    option_and_then (λ part. option_and_then (λ parts. number_below (2 ^ 32) parts.0) (at_space part)) (behind_spaces spaces text)

-- the hold that the line of a turn tells: the caller stands behind three spaces, and the tests behind nine
unfoldable pub told_hold : List ℕ → Option Hold
told_hold text =
    option_and_then (λ caller. option_map (λ tests. record { caller = caller; tests = tests }) (number_at 9 text)) (number_at 3 text)

abbrev pub hold_view : read.Hold → Hold
hold_view hold = record { caller = hold.caller; tests = hold.tests }
