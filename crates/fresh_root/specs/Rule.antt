-- The rule of the table of a counted history: what holds of its word and of all its views between any two steps.
use Rattle.std.specs.Prelude.{◌≡◌, ℕ, true, false, List, [], ◌∷◌, length, All}
use mathlib.Core.Option.{some}
use lib.ListN.{get_elem?}
use Rattle.atomic_table.specs.Table.{State}
use Rattle.fresh_root.specs.Prefixes.{IsPrefixOf}
use Rattle.fresh_root.specs.declared.view.View.{View}

-- a home view that isn't spent
pub record IsHome (v : View) : Type 0 where
  pub home : v.home ≡ true
  pub unspent : v.spent ≡ false

-- every list of a view is a beginning of the history, the older ones included
pub record SawOf (history : List ℕ) (v : View) : Type 0 where
  pub list : IsPrefixOf v.list history
  pub older : All (λ xs. IsPrefixOf xs history) v.older

pub record IsFresh (s : State (Unit {0}) View) : Type 0 where
  -- there is one home view that isn't spent. Its list is the history
  pub seat : ℕ
  pub view : View
  pub at : get_elem? s.views seat ≡ some view
  pub home : IsHome view
  pub alone : (j : ℕ) (v : View) → get_elem? s.views j ≡ some v → IsHome v → j ≡ seat
  -- the word is the length of the history
  pub count : s.words ≡ length view.list ∷ []
  -- of every view that isn't spent
  pub each : (j : ℕ) (v : View) → get_elem? s.views j ≡ some v → v.spent ≡ false → SawOf view.list v
