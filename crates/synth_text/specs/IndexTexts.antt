-- The values of `indexes`: a list `n,n,..` of numbers below 2^32, or loops `s*n:s*n:..` with s and n from 1 on.
use Rattle.std.specs.Prelude.{ℕ, ◌-◌, ◌^◌, ◌==◌, List, [], ◌∷◌, Option, Some, option_map, if◌then◌else◌}
use Rattle.std.specs.Option.{option_and_then}
use Rattle.std.specs.List.{list_any, slice_split}
use Rattle.synth_text.specs.declared.description.Loop.{Loop}
use Rattle.synth_text.specs.declared.description.Indexes.{Indexes}
use Rattle.synth_text.specs.declared.description.Indexes.TheVariants as indexes
use Rattle.byte_text.specs.Cuts.{cut}
use Rattle.byte_text.specs.Numerals.{number_in}

-- one number of a list
unfoldable pub index_of : List ℕ → Option ℕ
index_of piece = number_in 0 (2 ^ 32 - 1) piece

-- one loop
unfoldable pub loop_of : List ℕ → Option Loop
loop_of piece =
    option_and_then
    (λ parts. option_and_then
    (λ step. option_map (λ count. record { step = step; count = count }) (number_in 1 (2 ^ 32 - 1) parts.1))
    (number_in 1 (2 ^ 32 - 1) parts.0))
    (cut (λ byte. byte == 42) piece)

-- what each piece says, where each says something
abbrev pub entries_of : {X : Type 0} → (List ℕ → Option X) → List (List ℕ) → Option (List X)
entries_of reading [] = Some []
entries_of reading (piece ∷ rest) =
    option_and_then (λ entry. option_map (λ entries. entry ∷ entries) (entries_of reading rest)) (reading piece)

-- what a value says; one with a `*` is of loops
unfoldable pub indexes_of : List ℕ → Option Indexes
indexes_of text =
    if list_any (λ byte. byte == 42) text
    then option_map indexes.Loops (entries_of loop_of (slice_split (λ byte. byte == 58) text))
    else option_map indexes.List (entries_of index_of (slice_split (λ byte. byte == 44) text))
