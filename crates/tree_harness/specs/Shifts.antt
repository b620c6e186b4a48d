-- What a thread may be given, and what it gives back.
use Rattle.std.specs.Prelude.{◌≡◌, ℕ}
use Rattle.lock_rules.specs.Tag.{Tag}
use Rattle.clof_compose.specs.Contexts.{Context}
use Rattle.clof_compose.specs.Courses.{course_of}
use Rattle.clof_compose.specs.Meanings.{Rest}
use Rattle.level_harness.specs.Jobs.{IsJob}
use Rattle.level_harness.specs.Rooms.{HasRoom}
use Rattle.level_harness.specs.declared.holds.Job.{Job}

module _ {P : Type 0} (rest : P → Rest) where
  -- the lock is sound and of the lowest level, its payload has room for all calls, and the job is one of its callers'
  pub record MayWork (has : Context → Type 0) (level : ℕ) (tag : Tag) (sound : Type 0) (j : Job P) : Type 0 where
    pub sound_is : sound
    pub lowest : level ≡ 0
    pub room : HasRoom (course_of tag)
    pub job : IsJob rest has level tag j.share.caller j

  -- the pass is that of the same context, and the share has made all its turns
  pub record HasWorked (before after : Job P) : Type 0 where
    pub pass : (rest after.pass).context ≡ (rest before.pass).context
    pub share : after.share ≡ record before.share { made = before.share.quota }
