-- How sizes are printed (this project's profile).
use Rattle.std.specs.Prelude.{ℕ, ◌/◌, ◌%◌, ◌^◌, ◌==◌, List, [], ◌∷◌, ◌++◌, codes, decimal, if◌then◌else◌}

-- the first of these units that divides the size; B divides each
abbrev pub first_dividing : List (ℕ × List ℕ) → ℕ → ℕ × List ℕ
first_dividing [] size = (1, codes "B")
first_dividing (unit ∷ smaller) size = if size % unit.0 == 0 then unit else first_dividing smaller size

-- the units above B, from the greatest on
abbrev pub units : List (ℕ × List ℕ)
units = (2 ^ 40, codes "TiB") ∷ (2 ^ 30, codes "GiB") ∷ (2 ^ 20, codes "MiB") ∷ (2 ^ 10, codes "KiB") ∷ []

-- the greatest unit that divides a size; 0 is counted in B
abbrev pub unit_of : ℕ → ℕ × List ℕ
unit_of size = if size == 0 then (1, codes "B") else first_dividing units size

-- a size as a whole number of that unit
unfoldable pub size_text : ℕ → List ℕ
size_text size = decimal (size / (unit_of size).0) ++ (unit_of size).1
