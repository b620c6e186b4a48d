-- Sets of numbers below 4,096, as ascending lists, after the bitmaps of hwloc 2 (manual, "The bitmap API").
use Rattle.std.specs.Prelude.{ℕ, ◌<◌, Bool, not, ◌||◌, ◌&&◌, ◌==◌, List}
use Rattle.std.specs.List.{All, filter, list_any, range_with_len}
use Rattle.std.specs.List.Sorted.{IsStrictlyIncreasing}

-- whether the list has the number
abbrev pub has : List ℕ → ℕ → Bool
has set number = list_any (λ member. member == number) set

-- the numbers of a set are below this
abbrev pub set_limit : ℕ
set_limit = 4096

-- a set: its numbers ascend, and each is below the limit
pub record IsSet (set : List ℕ) : Type 0 where
  pub ascending : IsStrictlyIncreasing set
  pub below : All (λ number. number < set_limit) set

-- the numbers below the limit that pass the test, ascending
unfoldable pub numbers_below : ℕ → (ℕ → Bool) → List ℕ
numbers_below limit test = filter test (range_with_len 0 limit)

-- the set of the numbers that pass the test
abbrev pub numbers_where : (ℕ → Bool) → List ℕ
numbers_where test = numbers_below set_limit test

-- the numbers that are in the one or in the other
abbrev pub union : List ℕ → List ℕ → List ℕ
union one other = numbers_where (λ number. has one number || has other number)

-- the numbers that are in the one and not in the other
abbrev pub minus : List ℕ → List ℕ → List ℕ
minus one other = numbers_where (λ number. has one number && not (has other number))

-- the numbers that are in both
abbrev pub meet : List ℕ → List ℕ → List ℕ
meet one other = numbers_where (λ number. has one number && has other number)

-- the numbers that are in just one of the two
abbrev pub xor : List ℕ → List ℕ → List ℕ
xor one other = numbers_where (λ number.
    (has one number && not (has other number)) || (has other number && not (has one number)))
