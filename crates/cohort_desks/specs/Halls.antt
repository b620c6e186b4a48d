-- A hall: all its jobs are in their slots or with one of its Cohorts.
use Rattle.std.specs.Prelude.{◌≡◌, ◌<◌, ◌≤◌, ◌⊎◌, ℕ, List, [], Some, length, slice_get, vec_capacity}
use Rattle.lock_rules.specs.Tag.{Tag}
use Rattle.cohort_queue.specs.Numbers.{IsIn}
use Rattle.cohort_queue.specs.States.{CohortState}
use Rattle.cohort_desks.specs.declared.hall.Hall.{Hall}
use Rattle.cohort_desks.specs.Desks.{AreDesks, HaveRoom}
use Rattle.cohort_desks.specs.Slots.{AreOwn, IsFull}

-- a Cohort of jobs that have slots and this tag, with a seat for each thread
pub record IsCohortOf (tag : Tag) (limit threads : ℕ) (c : CohortState) : Type 0 where
  pub tag_is : c.tag ≡ tag
  pub seats_are : c.seats ≡ threads
  pub within : (x : ℕ) → IsIn x c.numbers → x < limit

-- one of the Cohorts was made with this number
pub record IsGiven (cohorts : List CohortState) (x : ℕ) : Type 0 where
  pub place : ℕ
  pub cohort : CohortState
  pub at : slice_get cohorts place ≡ Some cohort
  pub given : IsIn x cohort.numbers

module _ {J : Type 0} (number : J → ℕ) (tag_of : J → Tag) where
  -- each job with this tag is in its slot, or a Cohort was made with it, or it is one of those that are missing; and each thread has a
  -- place at each Cohort
  pub record IsHall (tag : Tag) (missing : List ℕ) (hall : Hall J) : Type 0 where
    pub own : AreOwn number tag_of tag hall.slots.items
    pub cohorts_are : (i : ℕ) (c : CohortState) → slice_get hall.cohorts.items i ≡ Some c
        → IsCohortOf tag (length hall.slots.items) (length hall.desks.items) c
    pub known : (x : ℕ) → x < length hall.slots.items
        → IsFull number tag_of tag hall.slots.items x ⊎ (IsGiven hall.cohorts.items x ⊎ IsIn x missing)
    pub desks_are : AreDesks number tag_of hall.cohorts.items (length hall.desks.items) hall.desks.items
    pub lists_many : length hall.emptied.items ≡ length hall.cohorts.items
    pub lists_empty : (i : ℕ) (v : _) → slice_get hall.emptied.items i ≡ Some v
        → (v.items ≡ []) × (length hall.desks.items ≤ vec_capacity v)

module _ {J : Type 0} (number : J → ℕ) (tag_of : J → Tag) where
  -- and none is missing
  abbrev pub IsWhole : Tag → Hall J → Type 0
  IsWhole tag hall = IsHall number tag_of tag [] hall

  -- no Cohort was made yet
  pub record IsEmpty (hall : Hall J) : Type 0 where
    pub no_cohort : hall.cohorts.items ≡ []
    pub no_list : hall.emptied.items ≡ []
    pub no_place : AreDesks number tag_of [] (length hall.desks.items) hall.desks.items

-- it has room for so many Cohorts
pub record HasRoomFor {J : Type 0} (room : ℕ) (hall : Hall J) : Type 0 where
  pub for_cohorts : room ≤ vec_capacity hall.cohorts
  pub for_lists : room ≤ vec_capacity hall.emptied
  pub at_desks : HaveRoom room hall.desks.items
