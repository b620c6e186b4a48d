-- What a Cohort, a seat and a Rest hold.
use Rattle.std.specs.Prelude.{◌≡◌, ◌≤◌, ℕ, List, [], length, Option, slice_index}
use Rattle.atomic_table.specs.Seated.{TableId}
use Rattle.crossbeam_queue.specs.Passes.{Pass, view, IsPassOf, ruled_capacity}
use Rattle.crossbeam_queue.specs.declared.array_queue.Doing.{Doing}
use Rattle.crossbeam_queue.specs.declared.array_queue.Slotted.{Slotted}
use Rattle.lock_rules.specs.Tag.{Tag}
use Rattle.cohort_queue.specs.Rule.{IsCohort}
use Rattle.cohort_queue.specs.States.{CohortState, SeatState, RestState}
use Rattle.cohort_queue.specs.Views.{tag_in, tagged_by, HasAll}
use Rattle.cohort_queue.specs.declared.view.View.{View}

abbrev pub cohort_state : TableId → View → CohortState
cohort_state z v = record { name = z; numbers = v.given; tag = tag_in v.tag; seats = v.split }

abbrev pub seat_state : TableId → View → SeatState
seat_state z v = record {
  name = z;
  numbers = v.given;
  tag = tag_in v.tag;
  seat = slice_index v.numbers 0;
  counted = v.split;
  outs = v.outs;
}

abbrev pub rest_state : View → RestState
rest_state v = record { numbers = v.given; tag = tag_in v.tag; outs = v.outs }

module _ {J : Type 0} where
  abbrev pub cohort_at : Pass J View → CohortState
  cohort_at first = cohort_state first.table_id (view first)

  abbrev pub seat_at : Pass J View → SeatState
  seat_at place = seat_state place.table_id (view place)

  abbrev pub rest_at : Pass J View → RestState
  rest_at first = rest_state (view first)

-- the tag in a view is no longer open
abbrev pub HasTag : View → Type 0
HasTag v = v.tag ≡ tagged_by (tag_in v.tag)

module _ {J Q A : Type 0} where
  -- what the first seat of the queue knew when all seats were split off: there is room for all jobs that were given
  pub record IsOpen (queue : Slotted (Option J) (Doing J View) Q A) (first : Pass J View) : Type 0 where
    pub own : IsPassOf queue first
    pub room : length (view first).given ≤ ruled_capacity queue
    pub tagged : HasTag (view first)
    pub counts : 1 ≤ (view first).split

  -- the first seat, which took over all others
  pub record IsClosed (queue : Slotted (Option J) (Doing J View) Q A) (first : Pass J View) : Type 0 where
    pub own : IsPassOf queue first
    pub is_first : first.id ≡ 0
    pub tagged : HasTag (view first)
    pub counts : 1 ≤ (view first).split
    pub all : HasAll (view first)

-- a seat with one number and no slot; the one with the number 0 is the first
pub record IsSeat {J : Type 0} (pass : Pass J View) : Type 0 where
  pub empty : pass.me.1 ≡ []
  pub one : length (view pass).numbers ≡ 1
  pub tagged : HasTag (view pass)
  pub first : slice_index (view pass).numbers 0 ≡ 0 → pass.id ≡ 0

-- at a moment there was a state of the Cohort in which the queue was empty and the seat had the same out
pub record FoundEmpty {J : Type 0} (number : J → ℕ) (tag_of : J → Tag) (s : SeatState) : Type 0 where
  pub views : List View
  pub state : IsCohort number tag_of [] views
  pub seat : ℕ
  pub v : View
  pub at : lib.ListN.get_elem? views seat ≡ mathlib.Core.Option.some v
  pub is : seat_state s.name v ≡ s
