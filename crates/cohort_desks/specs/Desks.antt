-- Where threads stand at Cohorts.
use Rattle.std.specs.Prelude.{◌≡◌, ◌<◌, ◌≤◌, ◌++◌, ◌∷◌, [], ℕ, List, Some, length, map, slice_get, vec_capacity}
use Rattle.lock_rules.specs.Tag.{Tag}
use Rattle.cohort_queue.specs.Numbers.{IsIn, IsNotIn}
use Rattle.cohort_queue.specs.States.{CohortState, IsSeatOf, number_at}
use Rattle.cohort_desks.specs.declared.desk.Place.{Place}
use Rattle.cohort_desks.specs.declared.desk.Desk.{Desk}

module _ {J : Type 0} (number : J → ℕ) (tag_of : J → Tag) where
  -- the jobs are of this Cohort
  abbrev pub AreJobsOf : CohortState → List J → Type 0
  AreJobsOf c jobs = (i : ℕ) (job : J) → slice_get jobs i ≡ Some job → IsIn (number job) c.numbers × (tag_of job ≡ c.tag)

  -- a place at this Cohort: what the seat has out is kept there, in order, in a list with room for all jobs of the Cohort
  pub record IsPlace (c : CohortState) (p : Place J) : Type 0 where
    pub seat_is : IsSeatOf c p.seat
    pub outs : p.seat.outs ≡ map number p.kept.items
    pub kept_are : AreJobsOf c p.kept.items
    pub room : length c.numbers ≤ vec_capacity p.kept

  -- the same while a job with this number and this tag is out besides, which is not kept
  pub record HasTaken (c : CohortState) (p : Place J) (x : ℕ) (tag : Tag) : Type 0 where
    pub seat_is : IsSeatOf c p.seat
    pub outs : p.seat.outs ≡ map number p.kept.items ++ x ∷ []
    pub kept_are : AreJobsOf c p.kept.items
    pub room : length p.kept.items < vec_capacity p.kept
    pub room_for_all : length c.numbers ≤ vec_capacity p.kept
    pub known : IsIn x c.numbers
    pub new : IsNotIn x (map number p.kept.items)
    pub tag_is : tag ≡ c.tag

  -- the seat of the thread with this number
  abbrev pub IsSeatAt : ℕ → CohortState → Place J → Type 0
  IsSeatAt thread c p = p.seat.seat ≡ number_at c.seats thread

  -- the thread has a place at each of these Cohorts
  pub record IsDesk (cohorts : List CohortState) (d : Desk J) : Type 0 where
    pub many : length d.places.items ≡ length cohorts
    pub each : (i : ℕ) (c : CohortState) (p : Place J) → slice_get cohorts i ≡ Some c → slice_get d.places.items i ≡ Some p
        → IsPlace c p × IsSeatAt d.number c p

  -- the same while a job with this number and this tag is out at the Cohort `at`
  pub record HasTakenAt (cohorts : List CohortState) (d : Desk J) (at x : ℕ) (tag : Tag) : Type 0 where
    pub many : length d.places.items ≡ length cohorts
    pub here : (c : CohortState) (p : Place J) → slice_get cohorts at ≡ Some c → slice_get d.places.items at ≡ Some p
        → HasTaken c p x tag × IsSeatAt d.number c p
    pub others : (i : ℕ) (c : CohortState) (p : Place J) → (i ≡ at → ⊥) → slice_get cohorts i ≡ Some c → slice_get d.places.items i ≡ Some p
        → IsPlace c p × IsSeatAt d.number c p

  -- as many threads, in the order of their numbers, each with a place at each of these Cohorts
  pub record AreDesks (cohorts : List CohortState) (threads : ℕ) (desks : List (Desk J)) : Type 0 where
    pub all : length desks ≡ threads
    pub each : (k : ℕ) (d : Desk J) → slice_get desks k ≡ Some d → (d.number ≡ k) × IsDesk cohorts d

-- each has room for places at so many Cohorts
abbrev pub HaveRoom : {J : Type 0} → ℕ → List (Desk J) → Type 0
HaveRoom {J} room desks = (k : ℕ) (d : Desk J) → slice_get desks k ≡ Some d → room ≤ vec_capacity d.places
