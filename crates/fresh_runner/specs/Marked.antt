-- What the marks of a run tell, once its lock was taken apart.
use Rattle.std.specs.Prelude.{◌≡◌, ℕ, List, length, slice_get, Some}
use Rattle.fresh_runner.specs.Places.{places_of}
use Rattle.fresh_runner.specs.declared.account.Marks.{Marks}

-- of each of so many callers the marks are the numbers of its calls, in order
pub record AreMarked (calls : List ℕ) (count : ℕ) (marks : List Marks) : Type 0 where
  pub many : length marks ≡ count
  pub each : (k : ℕ) (m : Marks) → slice_get marks k ≡ Some m → m.turns.items ≡ places_of k calls
