-- How a lock stands whose callers may begin, and what a trial leaves.
use Rattle.std.specs.Prelude.{◌≡◌, ℕ, List, length}
use Rattle.lock_rules.specs.Tag.{Tag}
use Rattle.keep_local.specs.Shapes.{callers_of}
use Rattle.keep_local.specs.States.{ShareState, new_shares}
use Rattle.clof_compose.specs.Contexts.{Context}
use Rattle.clof_compose.specs.Courses.{Course, course_of}
use Rattle.clof_compose.specs.Meanings.{Rest}
use Rattle.clof_compose.specs.Passes.{AreAll}
use Rattle.clof_compose.specs.Roots.{IsFit, root_tag}
use Rattle.level_harness.specs.Rooms.{HasRoom, roll_tag}
use Rattle.level_harness.specs.declared.roll.Roll.{Roll}
use Rattle.tree_harness.specs.declared.given.Brought.{Brought}
use Rattle.tree_harness.specs.declared.outcome.Outcome.{Outcome}

-- a trail has a quota for each caller, these are all its shares, and the payload has room for all calls
pub record IsDealt (course : Course) (shares : List ShareState) : Type 0 where
  pub quotas : length course.quotas ≡ callers_of course.shape
  pub dealt : shares ≡ new_shares course.name course.quotas
  pub room : HasRoom course

-- this is what callers bring whose shares are all of the trail's
abbrev pub IsBrought : Course → Brought → Type 0
IsBrought course brought = IsDealt course brought.shares.items

-- the lock is of the lowest level; it has a pass for each caller, and all shares of its trail
pub record IsReady {P : Type 0} (rest : P → Rest) (has : Context → Type 0) (level count : ℕ) (tag : Tag) (passes : List P)
    (shares : List ShareState) : Type 0 where
  pub lowest : level ≡ 0
  pub many : count ≡ callers_of (course_of tag).shape
  pub all : AreAll (λ p. (rest p).context) has level tag count passes
  pub dealt : IsDealt (course_of tag) shares

-- a trial leaves a fit root with the tag of its lock
pub record IsLeft (tag : Tag) (outcome : Outcome Roll) : Type 0 where
  pub fit : IsFit (λ (r : Roll). r.callers.items) outcome.root
  pub tagged : root_tag roll_tag outcome.root ≡ tag
