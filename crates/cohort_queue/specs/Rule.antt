-- The rule of a Cohort: what holds of the jobs in its queue and of all its views between any two steps.
use Rattle.std.specs.Prelude.{◌≡◌, ◌+◌, ℕ, ◌==◌, List, [], Option, All, length}
use Rattle.std.specs.List.{sum_by, count_by}
use mathlib.Core.Option.{some}
use lib.ListN.{get_elem?}
use Rattle.lock_rules.specs.Tag.{Tag}
use Rattle.lock_rules.specs.declared.view.Tagged.{Tagged}
use Rattle.cohort_queue.specs.Numbers.{times, AreDistinct, once_below}
use Rattle.cohort_queue.specs.Views.{tagged_by, IsSpent}
use Rattle.cohort_queue.specs.declared.view.View.{View}

-- a view that is not spent knows the tag and what was given
pub record KnowsCohort (given : List ℕ) (tag : Option Tagged) (v : View) : Type 0 where
  pub tag_is : v.tag ≡ tag
  pub given_is : v.given ≡ given

-- What the view of a seat tells
pub record SeatStands (given : List ℕ) (tag : Option Tagged) (split : ℕ) (seat : ℕ) (v : View) : Type 0 where
  -- one that is not spent knows the Cohort
  pub knows : ¬ IsSpent v → KnowsCohort given tag v
  -- one that is spent has nothing out
  pub spent : IsSpent v → v.outs ≡ []
  -- the first one counts the seats
  pub first : seat ≡ 0 → v.split ≡ split

-- how often a number stands in the queue
abbrev pub times_queued : {J : Type 0} → (J → ℕ) → ℕ → List J → ℕ
times_queued number x queue = count_by (λ j. number j == x) queue

module _ {J : Type 0} (number : J → ℕ) (tag_of : J → Tag) where
  -- the state of a Cohort: the jobs in its queue, the oldest first, and its views, of which the first is that of `make`
  pub record IsCohort (queue : List J) (views : List View) : Type 0 where
    -- the numbers of the jobs that `make` has put, the jobs' tag, and how many seats there are, the first one counted
    pub given : List ℕ
    pub tag : Option Tagged
    pub split : ℕ
    -- the numbers in the queue and those that are out with a view are the given ones, each once
    pub once : (x : ℕ) → times_queued number x queue + sum_by (λ v. times x v.outs) views ≡ times x given
    pub in_all : length queue + sum_by (λ v. length v.outs) views ≡ length given
    pub distinct : AreDistinct given
    -- all jobs in the queue have the one tag
    pub tagged : All (λ j. tag ≡ tagged_by (tag_of j)) queue
    -- each number of a seat stands in exactly one view, and no other number in any
    pub one_view : (k : ℕ) → sum_by (λ v. times k v.numbers) views ≡ once_below split k
    pub each_seat : (seat : ℕ) (v : View) → get_elem? views seat ≡ some v → SeatStands given tag split seat v
