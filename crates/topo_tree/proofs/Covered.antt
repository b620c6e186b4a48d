-- The sets of PUs that stand side by side.
use Rattle.std.specs.Prelude.{◌≡◌, ℕ, ◌<◌, false, List, length, slice_range}
use Rattle.cpu_set.specs.Sets.{has, numbers_where}
use Rattle.topo_tree.specs.Numbers.{is_bad}

-- no number is too large or comes twice
abbrev pub AreGood : List ℕ → Type 0
AreGood numbers = (place : ℕ) → place < length numbers → is_bad numbers place ≡ false

-- the set of the PUs from one position up to but not including another
unfoldable pub set_between : List ℕ → ℕ → ℕ → List ℕ
set_between numbers from to = numbers_where (has (slice_range numbers from to))
