-- The lines of a printed text.
use Rattle.std.specs.Prelude.{ℕ, Bool, List, [], ◌∷◌, codes, nat_eq, ◌==◌, if◌then◌else◌}
use Rattle.std.specs.List.{starts_with, prefix_len}

-- a byte in front of the first of some lines
abbrev pub in_front : ℕ → List (List ℕ) → List (List ℕ)
in_front byte [] = (byte ∷ []) ∷ []
in_front byte (line ∷ lines) = (byte ∷ line) ∷ lines

-- a text is cut into lines behind each line end; bytes behind the last one are a last line
abbrev pub lines : List ℕ → List (List ℕ)
lines [] = []
lines (byte ∷ bytes) = if byte == 10 then (byte ∷ []) ∷ lines bytes else in_front byte (lines bytes)

-- a line is told to be that of a turn
abbrev pub begins_turn : List ℕ → Bool
begins_turn line = starts_with nat_eq line (codes "turn ")

-- how many lines in front are
abbrev pub turn_count : List (List ℕ) → ℕ
turn_count all = prefix_len begins_turn all
