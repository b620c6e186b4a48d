-- The five kinds of step of a Cohort: what each makes of the view of the seat that steps. The queue itself says what becomes of the job: a
-- push puts it behind all others, and a pop takes the one in front.
use Rattle.std.specs.Prelude.{◌≡◌, ◌<◌, ◌≤◌, ℕ, ◌+◌, List, [], ◌∷◌, ◌++◌, length}
use mathlib.Core.Option.{some}
use lib.ListN.{get_elem?}
use Rattle.lock_rules.specs.Tag.{Tag}
use Rattle.cohort_queue.specs.Numbers.{times, IsIn, IsNotIn, without}
use Rattle.cohort_queue.specs.Rule.{IsCohort, times_queued}
use Rattle.cohort_queue.specs.Views.{tagged_by}
use Rattle.cohort_queue.specs.declared.view.View.{View}

-- 1. A push of the first view, before any other is split off: the number of a job comes behind those that were given before, and its tag is
-- that of all
abbrev pub with_given : View → ℕ → Tag → View
with_given v x t = record v { tag = tagged_by t; given = v.given ++ x ∷ [] }

-- 2. A pop that finds a job: its number is out with the view
abbrev pub with_out : View → ℕ → View
with_out v x = record v { outs = v.outs ++ x ∷ [] }

-- 3. A push of a job that is out with the view: its number no longer is
abbrev pub with_back : View → ℕ → View
with_back v x = record v { outs = without x v.outs }

-- 4. A view is split off. It has the next number, the same tag, nothing out, and it knows what was given
abbrev pub counting_one_more : View → View
counting_one_more v = record v { split = v.split + 1 }

abbrev pub split_off : View → View
split_off v = record { tag = v.tag; outs = []; given = v.given; numbers = v.split ∷ []; split = 0 }

-- 5. A view takes over the numbers of another, and what that one has out; the other is spent
abbrev pub with_other : View → View → View
with_other v w = record v { outs = w.outs ++ v.outs; numbers = w.numbers ++ v.numbers }

-- What the calls learn of these steps.
module _ {J : Type 0} where
  -- no more jobs are in the queue than were given and are not out with this view
  abbrev pub LeavesRoom : View → List J → Type 0
  LeavesRoom v queue = length queue + length v.outs ≤ length v.given

  module _ (number : J → ℕ) where
    abbrev pub PutsBack : View → J → View → Type 0
    PutsBack v job w = w ≡ with_back v (number job)

    -- what was given is in the queue or out with this view
    abbrev pub HasOthers : View → List J → Type 0
    HasOthers v queue = (x : ℕ) → times_queued number x queue + times x v.outs ≡ times x v.given

    module _ (tag_of : J → Tag) where
      abbrev pub Gives : View → J → View → Type 0
      Gives v job w = w ≡ with_given v (number job) (tag_of job)

      -- the job has the tag that the view knows, and was given and not out with it; so fewer are out with it than were given
      pub record Takes (v : View) (job : J) (w : View) : Type 0 where
        pub tagged : v.tag ≡ tagged_by (tag_of job)
        pub known : IsIn (number job) v.given
        pub new : IsNotIn (number job) v.outs
        pub few : length v.outs < length v.given
        pub after : w ≡ with_out v (number job)

      -- a state of the Cohort with these jobs in the queue and this view
      pub record StoodWith (v : View) (queue : List J) : Type 0 where
        pub views : List View
        pub state : IsCohort number tag_of queue views
        pub seat : ℕ
        pub at : get_elem? views seat ≡ some v
