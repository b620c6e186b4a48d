-- What a caller has to do in a run on threads.
use Rattle.std.specs.Prelude.{◌≡◌, ℕ}
use Rattle.lock_rules.specs.Tag.{Tag}
use Rattle.clof_compose.specs.Contexts.{Context}
use Rattle.clof_compose.specs.Courses.{course_of}
use Rattle.clof_compose.specs.Meanings.{Rest}
use Rattle.clof_compose.specs.Passes.{IsNumber}
use Rattle.clof_compose.specs.Shares.{IsShareIn}
use Rattle.level_harness.specs.declared.holds.Job.{Job}

module _ {P : Type 0} (rest : P → Rest) (has : Context → Type 0) (level : ℕ) (tag : Tag) where
  -- the job is that of the caller with this number: its pass and its share
  pub record IsJob (number : ℕ) (j : Job P) : Type 0 where
    pub pass_is : IsNumber has level tag number (rest j.pass).context
    pub share_is : IsShareIn (course_of tag) number j.share

  -- and it has made all its turns
  pub record IsEnded (number : ℕ) (j : Job P) : Type 0 where
    pub job_is : IsJob number j
    pub made : j.share.made ≡ j.share.quota
