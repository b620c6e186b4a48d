-- Tables of names in lower case, each with what it stands for.
use Rattle.std.specs.Prelude.{ℕ, List, [], ◌∷◌, map, Option, Some, None, if◌then◌else◌}
use Rattle.std.specs.Borrow.{Bor}
use Rattle.std.specs.Str.{str_eq_ignore_ascii_case}

-- what stands beside the first such name, without regard to the case of ASCII letters
abbrev pub entry_of : {X : Type 0} → List (List ℕ × X) → List ℕ → Option X
entry_of [] word = None
entry_of (row ∷ rows) word = if str_eq_ignore_ascii_case word row.0 then Some row.1 else entry_of rows word

-- the rows of a table in memory
abbrev pub rows : {X : Type 0} → List (Bor (List ℕ) × X) → List (List ℕ × X)
rows table = map (λ row. (row.0.now, row.1)) table
