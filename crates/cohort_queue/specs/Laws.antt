-- Laws of a Cohort's states.
use Rattle.std.specs.Prelude.{◌≡◌, ◌≢◌, ◌⊎◌, ℕ, List}
use mathlib.Core.Option.{some}
use lib.ListN.{get_elem?}
use Rattle.lock_rules.specs.Tag.{Tag}
use Rattle.cohort_queue.specs.Numbers.{times, IsIn, IsNotIn}
use Rattle.cohort_queue.specs.Rule.{IsCohort, times_queued}
use Rattle.cohort_queue.specs.declared.view.View.{View}

-- no view but this one, if any, has the number out
abbrev pub OutNowhereElse : ℕ → List View → ℕ → Type 0
OutNowhereElse x views seat = (j : ℕ) (v : View) → get_elem? views j ≡ some v → j ≢ seat → IsNotIn x v.outs

-- the number is out with this view, once
pub record IsOutOnce (x : ℕ) (views : List View) : Type 0 where
  pub seat : ℕ
  pub v : View
  pub at : get_elem? views seat ≡ some v
  pub once : times x v.outs ≡ 1
  pub alone : OutNowhereElse x views seat

module _ {J : Type 0} (number : J → ℕ) where
  -- it stands in the queue once, and is out with no view; or it isn't in the queue, and is out with one view, once
  abbrev pub StandsOnce : ℕ → List J → List View → Type 0
  StandsOnce x queue views =
      ((times_queued number x queue ≡ 1) × ((j : ℕ) (v : View) → get_elem? views j ≡ some v → IsNotIn x v.outs))
      ⊎ ((times_queued number x queue ≡ 0) × IsOutOnce x views)

  -- in each state of a Cohort each given number stands once: no caller is lost, and none is doubled
  abbrev pub NoneLostOrDoubled : (J → Tag) → Type 0
  NoneLostOrDoubled tag_of = (queue : List J) (views : List View) (state : IsCohort number tag_of queue views) (x : ℕ) → IsIn x state.given
      → StandsOnce x queue views
