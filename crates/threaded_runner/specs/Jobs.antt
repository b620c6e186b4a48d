-- What a caller has to do.
use Rattle.std.specs.Prelude.{◌≡◌, ℕ, ◌≤◌, List, false, length, drop, slice_get, Some}
use Rattle.lock_rules.specs.Tag.{Tag}
use Rattle.lock_rules.specs.Trees.{lists_in}
use Rattle.keep_local.specs.States.{ShareState}
use Rattle.clof_compose.specs.Contexts.{Context}
use Rattle.clof_compose.specs.Courses.{course_of}
use Rattle.clof_compose.specs.Meanings.{Rest}
use Rattle.clof_compose.specs.Passes.{IsNumber}
use Rattle.clof_compose.specs.Shares.{IsShareIn}
use Rattle.mc_text.specs.Request.{WholeCommand}
use Rattle.mc_text.specs.Reading.{commands_of}
use Rattle.mc_text.specs.Commands.{commands_left}
use Rattle.threaded_runner.specs.declared.job.Job.{Job}

-- the command has this place among those of the caller's section, one of the sections that the tag of a lock's payload tells
pub record IsCommandAt (payload : Tag) (caller place : ℕ) (command : WholeCommand) : Type 0 where
  pub section : List ℕ
  pub is_section : slice_get (lists_in payload) caller ≡ Some section
  pub is_command : slice_get (commands_of section) place ≡ Some command

-- the caller may hold as often as its section has commands, and these are the ones that it hasn't given
pub record HasLeft (payload : Tag) (share : ShareState) (commands : List WholeCommand) : Type 0 where
  pub section : List ℕ
  pub is_section : slice_get (lists_in payload) share.caller ≡ Some section
  pub quota : share.quota ≡ length (commands_of section)
  pub within : share.made ≤ share.quota
  pub left : commands ≡ drop share.made (commands_of section)

module _ {P : Type 0} (rest : P → Rest) (has : Context → Type 0) (level : ℕ) (tag : Tag) where
  -- the job is that of the caller with this number: its pass, its share, and what is left of its section
  pub record IsJob (number : ℕ) (j : Job P) : Type 0 where
    pub pass_is : IsNumber has level tag number (rest j.pass).context
    pub share_is : IsShareIn (course_of tag) number j.share
    pub left_is : HasLeft (course_of tag).payload j.share (commands_left j.commands)

  -- the caller's pass and share are back, and it has given all its commands unless it stopped
  pub record IsServed (number : ℕ) (j : Job P) : Type 0 where
    pub pass_is : IsNumber has level tag number (rest j.pass).context
    pub share_is : IsShareIn (course_of tag) number j.share
    pub made : j.stopped ≡ false → j.share.made ≡ j.share.quota

-- what a worker asks of a job: the lock is sound and of the lowest level, and the job is one of its callers'
pub record MayServe {P : Type 0} (rest : P → Rest) (has : Context → Type 0) (level : ℕ) (tag : Tag) (sound : Type 0) (j : Job P) : Type 0
  where
    pub sound_is : sound
    pub lowest : level ≡ 0
    pub job : IsJob rest has level tag j.share.caller j

-- what comes of it: the pass of the same context, the same share but for the turns made, and these are all unless the caller stopped
pub record HasServed {P : Type 0} (rest : P → Rest) (before after : Job P) : Type 0 where
  pub pass : (rest after.pass).context ≡ (rest before.pass).context
  pub share : after.share ≡ record before.share { made = after.share.made }
  pub made : after.stopped ≡ false → after.share.made ≡ before.share.quota
