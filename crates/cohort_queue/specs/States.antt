-- What a Cohort, a seat and a Rest are seen as.
use Rattle.std.specs.Prelude.{◌≡◌, ℕ, ◌+◌, ◌==◌, cond, List, [], length, slice_get, Some}
use Rattle.std.specs.List.{flat_map}
use Rattle.atomic_table.specs.Seated.{TableId}
use Rattle.lock_rules.specs.Tag.{Tag}

-- `name` tells its queue from all others, `numbers` are those of the jobs that it was made with, `tag` is that of all these jobs, and
-- `seats` is how many seats it gave
pub record CohortState : Type 0 where
  pub name : TableId
  pub numbers : List ℕ
  pub tag : Tag
  pub seats : ℕ

-- of which Cohort it is, its number among the seats, and `outs`, the numbers of the jobs that it took and did not put back. The seat by
-- which the jobs were given has the number 0 and counts the seats
pub record SeatState : Type 0 where
  pub name : TableId
  pub numbers : List ℕ
  pub tag : Tag
  pub seat : ℕ
  pub counted : ℕ
  pub outs : List ℕ

-- the numbers and the tag are those of the Cohort that was closed. `outs` are the numbers of the jobs that the seats had out, and of those
-- that were handed out since
pub record RestState : Type 0 where
  pub numbers : List ℕ
  pub tag : Tag
  pub outs : List ℕ

-- a seat of this Cohort
pub record IsSeatOf (c : CohortState) (s : SeatState) : Type 0 where
  pub name_is : s.name ≡ c.name
  pub numbers_are : s.numbers ≡ c.numbers
  pub tag_is : s.tag ≡ c.tag
  pub counted_is : s.seat ≡ 0 → s.counted ≡ c.seats

-- the number of the seat at k, of n seats: the one with the number 0 is the last
abbrev pub number_at : ℕ → ℕ → ℕ
number_at n k = cond (k + 1 == n) 0 (k + 1)

-- the seat at k as `make` gives it, but for the last
abbrev pub new_seat : CohortState → ℕ → SeatState
new_seat c k = record { name = c.name; numbers = c.numbers; tag = c.tag; seat = k + 1; counted = 0; outs = [] }

-- all seats of this Cohort, in order
pub record AreAll (c : CohortState) (seats : List SeatState) : Type 0 where
  pub all : length seats ≡ c.seats
  pub each : (k : ℕ) (s : SeatState) → slice_get seats k ≡ Some s → IsSeatOf c s × (s.seat ≡ number_at c.seats k)

-- what all these seats have out
abbrev pub outs_of : List SeatState → List ℕ
outs_of seats = flat_map (λ s. s.outs) seats
