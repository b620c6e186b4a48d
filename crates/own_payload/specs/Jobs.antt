-- What a caller has of a lock in a run on threads, and what it has made of it.
use Rattle.std.specs.Prelude.{◌≡◌, ℕ, ◌<◌, ◌≤◌, [], length, slice_index, vec_capacity}
use Rattle.lock_rules.specs.Tag.{Tag}
use Rattle.keep_local.specs.States.{TrailState}
use Rattle.keep_local.specs.Turns.{turns_of}
use Rattle.clof_compose.specs.Contexts.{Context}
use Rattle.clof_compose.specs.Courses.{course_of}
use Rattle.clof_compose.specs.Meanings.{Rest}
use Rattle.clof_compose.specs.Passes.{IsNumber}
use Rattle.clof_compose.specs.Shares.{IsShareIn}
use Rattle.own_payload.specs.declared.jobs.Job.{Job}
use Rattle.own_payload.specs.declared.jobs.Lists.{Lists}

module _ {P : Type 0} (rest : P → Rest) where
  -- the job is that of the caller with this number: its pass and its share
  pub record IsJob (has : Context → Type 0) (level : ℕ) (tag : Tag) (number : ℕ) (j : Job P) : Type 0 where
    pub pass_is : IsNumber has level tag number (rest j.pass).context
    pub share_is : IsShareIn (course_of tag) number j.share

  -- the lock is sound and of the lowest level, and the job is one of its callers'
  pub record MayWork (has : Context → Type 0) (sound : Type 0) (level : ℕ) (tag : Tag) (j : Job P) : Type 0 where
    pub sound_is : sound
    pub lowest : level ≡ 0
    pub job : IsJob has level tag j.share.caller j

  -- the pass is that of the same context, and the share has made all its turns, unless its caller may stop
  pub record HasServed (stops : ℕ → Type 0) (before after : Job P) : Type 0 where
    pub pass : (rest after.pass).context ≡ (rest before.pass).context
    pub share : after.share ≡ record before.share { made = after.share.made }
    pub ended : ¬ stops before.share.caller → after.share.made ≡ before.share.quota

  -- the job is that of the caller with this number, which has made all its turns, unless it may stop
  pub record IsEnded (stops : ℕ → Type 0) (has : Context → Type 0) (level : ℕ) (tag : Tag) (number : ℕ) (j : Job P) : Type 0 where
    pub job : IsJob has level tag number j
    pub made : ¬ stops number → j.share.made ≡ j.share.quota

-- the lists are empty, and have room for so many
pub record AreEmpty {P : Type 0} (room : ℕ) (lists : Lists P) : Type 0 where
  pub passes : lists.passes.items ≡ []
  pub shares : lists.shares.items ≡ []
  pub passes_room : room ≤ vec_capacity lists.passes
  pub shares_room : room ≤ vec_capacity lists.shares

-- each caller has closed as many turns as its quota, but for those that may stop
abbrev pub EachEnded : (ℕ → Type 0) → TrailState → Type 0
EachEnded stops s = (k : ℕ) → k < length s.quotas → ¬ stops k → turns_of k s.closed ≡ slice_index s.quotas k

-- each caller has closed as many turns as its quota
abbrev pub EachMadeAll : TrailState → Type 0
EachMadeAll s = (k : ℕ) → k < length s.quotas → turns_of k s.closed ≡ slice_index s.quotas k
