-- Beginnings of a list, and places in it.
use Rattle.std.specs.Prelude.{◌≡◌, ℕ, List, ◌++◌, slice_get, Some}

-- the list `all` begins with `xs`
pub record IsPrefixOf (xs all : List ℕ) : Type 0 where
  pub behind : List ℕ
  pub all_are : all ≡ xs ++ behind

-- the caller stands at this place of the history, counted from 0
abbrev pub StandsAt : ℕ → ℕ → List ℕ → Type 0
StandsAt caller turn history = slice_get history turn ≡ Some caller
