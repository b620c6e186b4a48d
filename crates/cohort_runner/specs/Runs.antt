-- A run of more callers than threads, before, between and after its threads.
use Rattle.std.specs.Prelude.{◌≡◌, ◌≤◌, ℕ, List, [], Some, length, slice_get, vec_capacity}
use Rattle.std.specs.declared.alloc.Global.{Global}
use Rattle.std.specs.declared.vec.Vec.{Vec}
use Rattle.lock_rules.specs.Tag.{Tag}
use Rattle.cohort_queue.specs.States.{CohortState}
use Rattle.cohort_desks.specs.Desks.{IsDesk}
use Rattle.cohort_desks.specs.Halls.{IsWhole}
use Rattle.cohort_desks.specs.declared.desk.Desk.{Desk}
use Rattle.clof_compose.specs.Contexts.{Context}
use Rattle.clof_compose.specs.Meanings.{Rest}
use Rattle.threaded_runner.specs.Crews.{HasRoom}
use Rattle.cohort_runner.specs.Callers.{CallerState}
use Rattle.cohort_runner.specs.Rolls.{IsRoll, contexts_of, roll_tag}
use Rattle.cohort_runner.specs.declared.run.Aside.{Aside}
use Rattle.cohort_runner.specs.declared.run.Floor.{Floor}
use Rattle.cohort_runner.specs.declared.run.Run.{Run}

abbrev pub number_of : CallerState → ℕ
number_of c = c.number

abbrev pub tag_of : CallerState → Tag
tag_of c = c.tag

-- All callers of a lock are on the roll, and each is in the hall: in its slot, or given to a Cohort. The lists are empty and have room for
-- what comes back of them
pub record IsOpen {P : Type 0} (rest : P → Rest) (has : Context → Type 0) (level count : ℕ) (tag : Tag) (run : Run P) : Type 0 where
  pub roll_is : IsRoll has level tag (contexts_of rest run.roll.told.value.items)
  pub all : length run.hall.slots.items ≡ count
  pub hall_is : IsWhole number_of tag_of (roll_tag (contexts_of rest run.roll.told.value.items)) run.hall
  pub no_jobs : run.lists.jobs.items ≡ []
  pub jobs_room : count ≤ vec_capacity run.lists.jobs
  pub lists_are : HasRoom count run.lists.passes run.lists.shares run.lists.stopped

-- the run of which these are the parts: what all threads have before them, their desks, and what is put aside
abbrev pub run_of : {P : Type 0} → Floor P → Vec (Desk CallerState) Global → Aside P → Run P
run_of floor desks aside = record {
  roll = floor.roll;
  hall = record { cohorts = floor.cohorts; desks = desks; emptied = aside.emptied; slots = aside.slots };
  lists = aside.lists;
}

-- What a thread asks of its desk: the lock is sound and of the lowest level, its callers are those of the roll, all Cohorts are of callers
-- on the roll, and the desk has a place at each
pub record MaySit (has : Context → Type 0) (level : ℕ) (tag : Tag) (sound : Type 0) (roll : List Context) (cohorts : List CohortState)
    (desk : Desk CallerState) : Type 0 where
  pub sound_is : sound
  pub lowest : level ≡ 0
  pub roll_is : IsRoll has level tag roll
  pub cohorts_are : (i : ℕ) (c : CohortState) → slice_get cohorts i ≡ Some c → c.tag ≡ roll_tag roll
  pub desk_is : IsDesk number_of tag_of cohorts desk

-- what comes of it: the desk of the same thread, with a place at each Cohort
pub record HasSat (cohorts : List CohortState) (before after : Desk CallerState) : Type 0 where
  pub number_is : after.number ≡ before.number
  pub desk_is : IsDesk number_of tag_of cohorts after
