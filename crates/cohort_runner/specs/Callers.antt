-- A caller who waits for a thread.
use Rattle.std.specs.Prelude.{◌≡◌, ℕ, List, slice_get, Some}
use Rattle.lock_rules.specs.Tag.{Tag}
use Rattle.clof_compose.specs.Contexts.{Context}
use Rattle.clof_compose.specs.Courses.{course_of}
use Rattle.clof_compose.specs.Meanings.{Rest}
use Rattle.clof_compose.specs.Shares.{IsShareIn}
use Rattle.mc_text.specs.Commands.{commands_left}
use Rattle.threaded_runner.specs.Jobs.{HasLeft}
use Rattle.threaded_runner.specs.declared.job.Job.{Job}

-- what is seen of a caller: its number, and the tag of the roll that it stands on
pub record CallerState : Type 0 where
  pub number : ℕ
  pub tag : Tag

-- The pass, the share and the commands left are those of one caller: the pass is of the context that the roll has for the caller, the share
-- is of the trail that this context's tag tells, and the commands left are those behind the turns made
pub record IsCaller {P : Type 0} (rest : P → Rest) (roll : List Context) (j : Job P) : Type 0 where
  pub at : slice_get roll j.share.caller ≡ Some (rest j.pass).context
  pub share_is : IsShareIn (course_of (rest j.pass).context.tag) j.share.caller j.share
  pub left_is : HasLeft (course_of (rest j.pass).context.tag).payload j.share (commands_left j.commands)
