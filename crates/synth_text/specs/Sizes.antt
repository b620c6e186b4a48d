-- Sizes in bytes: digits and a suffix, without regard to case.
use Rattle.std.specs.Prelude.{ℕ, ◌*◌, ◌-◌, ◌^◌, List, [], ◌∷◌, codes, Option, Some, None, nat_lt, if◌then◌else◌}
use Rattle.std.specs.Option.{option_and_then}
use Rattle.std.specs.List.{take_while}
use Rattle.std.specs.Char.{is_ascii_digit}
use Rattle.byte_text.specs.Cuts.{without_front}
use Rattle.byte_text.specs.Numerals.{number_in}
use Rattle.synth_text.specs.Tables.{entry_of}

-- the suffixes, in lower case, with the bytes that each stands for
abbrev pub units : List (List ℕ × ℕ)
units =
    ([], 1) ∷ (codes "kb", 1000) ∷ (codes "mb", 1000000) ∷ (codes "gb", 1000000000) ∷ (codes "tb", 1000000000000)
    ∷ (codes "kib", 1024) ∷ (codes "mib", 1048576) ∷ (codes "gib", 1073741824) ∷ (codes "tib", 1099511627776) ∷ []

-- a size below 2^64
abbrev pub small_size : ℕ → Option ℕ
small_size bytes = if nat_lt bytes (2 ^ 64) then Some bytes else None

-- the size that a text writes
unfoldable pub size_of : List ℕ → Option ℕ
size_of text =
    option_and_then
    (λ unit. option_and_then (λ number. small_size (number * unit)) (number_in 0 (2 ^ 64 - 1) (take_while is_ascii_digit text)))
    (entry_of units (without_front is_ascii_digit text))
