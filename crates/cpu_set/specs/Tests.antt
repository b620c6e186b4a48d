-- Two sets together: whether they have a number in common, and whether the one has all numbers of the other (hwloc's
-- `hwloc_bitmap_intersects` and `hwloc_bitmap_isincluded`).
use Rattle.std.specs.Prelude.{ℕ, Bool, List}
use Rattle.std.specs.List.{list_any, list_all}
use Rattle.cpu_set.specs.Sets.{has}

-- whether some number of the one is in the other
unfoldable pub meets : List ℕ → List ℕ → Bool
meets one other = list_any (has other) one

-- whether each number of the one is in the other
unfoldable pub is_inside : List ℕ → List ℕ → Bool
is_inside one other = list_all (has other) one
