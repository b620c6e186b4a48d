-- What a new Cohort takes.
use Rattle.std.specs.Prelude.{◌≡◌, ◌≤◌, [], ℕ, Some, All, length, slice_get, vec_capacity}
use Rattle.cohort_queue.specs.States.{AreAll}
use Rattle.cohort_desks.specs.declared.desk.Desk.{Desk}
use Rattle.cohort_desks.specs.declared.making.Making.{Making}

-- a desk without a place, with room for so many
pub record IsNewDesk {J : Type 0} (number room : ℕ) (d : Desk J) : Type 0 where
  pub number_is : d.number ≡ number
  pub no_place : d.places.items ≡ []
  pub room_is : room ≤ vec_capacity d.places

-- a new Cohort with all its seats, and as many empty lists, each with room for all its jobs
pub record IsMaking {J : Type 0} (threads : ℕ) (m : Making J) : Type 0 where
  pub count_is : m.cohort.seats ≡ threads
  pub all : AreAll m.cohort m.seats.items
  pub none_out : All (λ s. s.outs ≡ []) m.seats.items
  pub lists_many : length m.lists.items ≡ threads
  pub lists_are : (i : ℕ) (v : _) → slice_get m.lists.items i ≡ Some v → (v.items ≡ []) × (length m.cohort.numbers ≤ vec_capacity v)
