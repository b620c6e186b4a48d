-- How a lock stands before its callers work.
use Rattle.std.specs.Prelude.{◌≡◌, ℕ, true, List, length, map}
use Rattle.lock_rules.specs.Tag.{Tag}
use Rattle.lock_rules.specs.Trees.{lists_in}
use Rattle.keep_local.specs.Shapes.{callers_of}
use Rattle.keep_local.specs.States.{ShareState, new_shares}
use Rattle.clof_compose.specs.Contexts.{Context}
use Rattle.clof_compose.specs.Courses.{Course, course_of}
use Rattle.clof_compose.specs.Meanings.{Rest}
use Rattle.clof_compose.specs.Passes.{AreAll}
use Rattle.mc_text.specs.Reading.{commands_of}

-- What the tag of a lock tells its callers who have these sections: the shape is one of as many callers, the payload is a journal for the
-- sections, and each caller may hold as often as its section has commands, in a trail that keeps its turns in memory. The shares are as
-- they were given out
pub record IsDealt (course : Course) (sections : List (List ℕ)) (shares : List ShareState) : Type 0 where
  pub callers : callers_of course.shape ≡ length sections
  pub told : lists_in course.payload ≡ sections
  pub quotas : course.quotas ≡ map (λ section. length (commands_of section)) sections
  pub recorded : course.recorded ≡ true
  pub dealt : shares ≡ new_shares course.name course.quotas

-- the lock is sound and of the lowest level, its tag tells that it is for callers with these sections, and each of them has its pass and
-- its share
pub record IsReady {P : Type 0} (rest : P → Rest) (has : Context → Type 0) (sound : Type 0) (level count : ℕ) (tag : Tag)
    (sections : List (List ℕ)) (passes : List P) (shares : List ShareState) : Type 0 where
  pub sound_is : sound
  pub lowest : level ≡ 0
  pub count_is : count ≡ length sections
  pub all : AreAll (λ p. (rest p).context) has level tag count passes
  pub dealt : IsDealt (course_of tag) sections shares
