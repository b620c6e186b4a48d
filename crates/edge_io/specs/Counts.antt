-- Counts that may be kept in a u64: where one would pass the greatest u64, it may stand there.
use Rattle.std.specs.Prelude.{ℕ, ◌+◌, ◌-◌, ◌^◌, ◌≤◌, min}

-- the count is greater than before, or has reached the greatest u64
abbrev pub Rose : ℕ → ℕ → Type 0
Rose before now = min (before + 1) (2 ^ 64 - 1) ≤ now

-- the count grew by so many, or has reached the greatest u64 on the way
pub record RisesBy (count before now : ℕ) : Type 0 where
  pub enough : min (before + count) (2 ^ 64 - 1) ≤ now
  pub no_more : now ≤ before + count
