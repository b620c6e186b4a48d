-- Lists of callers' numbers, in which the order doesn't count.
use Rattle.std.specs.Prelude.{◌≡◌, ◌≤◌, ℕ, not, ◌==◌, cond, nat_lt, List}
use Rattle.std.specs.List.{count_by, filter}

-- how often a number stands in a list
abbrev pub times : ℕ → List ℕ → ℕ
times x xs = count_by (λ y. y == x) xs

abbrev pub IsIn : ℕ → List ℕ → Type 0
IsIn x xs = 1 ≤ times x xs

abbrev pub IsNotIn : ℕ → List ℕ → Type 0
IsNotIn x xs = times x xs ≡ 0

-- no number stands twice
abbrev pub AreDistinct : List ℕ → Type 0
AreDistinct xs = (x : ℕ) → times x xs ≤ 1

-- the same numbers, each as often
abbrev pub AreSame : List ℕ → List ℕ → Type 0
AreSame xs ys = (x : ℕ) → times x xs ≡ times x ys

-- the others of a list
abbrev pub without : ℕ → List ℕ → List ℕ
without x xs = filter (λ y. not (y == x)) xs

-- once for a number below n, and else not at all
abbrev pub once_below : ℕ → ℕ → ℕ
once_below n k = cond (nat_lt k n) 1 0
