-- How a lock stands for the work under it, and what comes back of threads.
use Rattle.std.specs.Prelude.{◌≡◌, ℕ, List, Some, length, slice_get}
use Rattle.std.specs.declared.alloc.Global.{Global}
use Rattle.std.specs.declared.vec.Vec.{Vec}
use Rattle.lock_rules.specs.Tag.{Tag}
use Rattle.keep_local.specs.Shapes.{callers_of}
use Rattle.clof_compose.specs.Contexts.{Context}
use Rattle.clof_compose.specs.Courses.{Course, course_of}
use Rattle.clof_compose.specs.Meanings.{Rest}
use Rattle.clof_compose.specs.Passes.{AreAll}

-- the lock is sound and of the lowest level, it has the passes of as many callers as its shape, and its tag is for what they bring
pub record IsSet {P B : Type 0} (rest : P → Rest) (has : Context → Type 0) (sound : Type 0) (level count : ℕ) (tag : Tag)
    (dealt : Course → B → Type 0) (brought : B) (passes : List P) : Type 0 where
  pub sound_is : sound
  pub lowest : level ≡ 0
  pub count_is : count ≡ callers_of (course_of tag).shape
  pub all : AreAll (λ p. (rest p).context) has level tag count passes
  pub dealt_is : dealt (course_of tag) brought

-- The jobs that threads were given have come back: they are as many, and of each came what may
pub record AreBack {J : Type 0} (was_open : Vec J Global → Type 0) (did : J → J → Type 0) (jobs : Vec J Global) : Type 0 where
  pub before : Vec J Global
  pub open_is : was_open before
  pub many : length jobs.items ≡ length before.items
  pub each : (i : ℕ) (j k : J) → slice_get before.items i ≡ Some j → slice_get jobs.items i ≡ Some k → did j k
