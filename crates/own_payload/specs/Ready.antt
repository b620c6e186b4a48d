-- How a lock stands whose callers may begin.
use Rattle.std.specs.Prelude.{◌≡◌, ℕ, List, length}
use Rattle.lock_rules.specs.Tag.{Tag}
use Rattle.keep_local.specs.Shapes.{callers_of}
use Rattle.keep_local.specs.States.{ShareState, new_shares}
use Rattle.clof_compose.specs.Contexts.{Context}
use Rattle.clof_compose.specs.Courses.{course_of}
use Rattle.clof_compose.specs.Meanings.{Rest}
use Rattle.clof_compose.specs.Passes.{AreAll}

-- the lock is sound and of the lowest level; it has a pass for each caller, and these are all shares of its trail
pub record IsReady {P : Type 0} (rest : P → Rest) (has : Context → Type 0) (sound : Type 0) (level count : ℕ) (tag : Tag)
    (passes : List P) (shares : List ShareState) : Type 0 where
  pub sound_is : sound
  pub lowest : level ≡ 0
  pub many : count ≡ callers_of (course_of tag).shape
  pub all : AreAll (λ p. (rest p).context) has level tag count passes
  pub quotas : length (course_of tag).quotas ≡ callers_of (course_of tag).shape
  pub dealt : shares ≡ new_shares (course_of tag).name (course_of tag).quotas
