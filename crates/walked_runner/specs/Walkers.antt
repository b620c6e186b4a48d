-- Where the callers of a walk stand.
use Rattle.std.specs.Prelude.{◌≡◌, ℕ, ◌+◌, ◌<◌, List, slice_get, Some, false, IsSomeAnd}
use Rattle.lock_rules.specs.Tag.{Tag}
use Rattle.keep_local.specs.States.{ShareState}
use Rattle.clof_compose.specs.Calls.{HasOpened}
use Rattle.clof_compose.specs.Contexts.{Context}
use Rattle.clof_compose.specs.Courses.{course_of}
use Rattle.clof_compose.specs.Meanings.{Climb, Descent, Rest, Stand}
use Rattle.clof_compose.specs.Passes.{IsNumber}
use Rattle.clof_compose.specs.Shares.{IsShareIn}
use Rattle.clof_compose.specs.declared.root.Root.{Root}
use Rattle.mc_text.specs.Commands.{commands_left}
use Rattle.mc_text.specs.Request.{WholeCommand}
use Rattle.threaded_runner.specs.Books.{book_calls, book_tag}
use Rattle.threaded_runner.specs.declared.book.Book.{Book}
use Rattle.threaded_runner.specs.Jobs.{HasLeft}
use Rattle.walked_runner.specs.declared.walker.State.{State}
use Rattle.walked_runner.specs.declared.walker.State.TheVariants.{Idle, Queued, Holding, Leaving, Stepping}
use Rattle.walked_runner.specs.declared.walker.Task.{Task}
use Rattle.walked_runner.specs.declared.walker.Walker.{Walker}

-- the share has counted a turn whose command the caller hasn't given yet
pub record HasBegun (payload : Tag) (share : ShareState) (commands : List WholeCommand) : Type 0 where
  pub before : ℕ
  pub made : share.made ≡ before + 1
  pub within : before < share.quota
  pub left : HasLeft payload (record share { made = before }) commands

module _ {P Q H L : Type 0} (rest : P → Rest) (climb : Q → Climb) (climbs : Q → Type 0) (stand : H → Stand (Root Book))
    (stands : H → Type 0) (descent : L → Descent) (descends : L → Type 0) (has : Context → Type 0) (level : ℕ) (tag : Tag) where
  -- The token is that of the caller with this task, and says no more than its contract allows. The commands left are those behind the turns
  -- made; a holder has that of its turn left too
  abbrev pub Stands : State P Q H L → Task → Type 0
  Stands (Idle p) t = IsNumber has level tag t.share.caller (rest p).context
      × HasLeft (course_of tag).payload t.share (commands_left t.commands)
  Stands (Queued q) t = IsNumber has level tag t.share.caller (climb q).context × climbs q × (t.share.made < t.share.quota)
      × HasLeft (course_of tag).payload t.share (commands_left t.commands)
  Stands (Holding h) t = IsNumber has level tag t.share.caller (stand h).context × stands h
      × IsSomeAnd (stand h).root (HasOpened book_calls book_tag tag level t.share)
      × HasBegun (course_of tag).payload t.share (commands_left t.commands)
  Stands (Leaving l) t = IsNumber has level tag t.share.caller (descent l).context × descends l
      × HasLeft (course_of tag).payload t.share (commands_left t.commands)
  Stands Stepping t = ⊥

  -- the caller with this number, and where it stands
  pub record IsWalker (number : ℕ) (w : Walker P Q H L) : Type 0 where
    pub share_is : IsShareIn (course_of tag) number w.task.share
    pub stands_is : Stands w.state w.task

  -- each caller of the list is the one with the number of its place
  pub record AreWalkers (ws : List (Walker P Q H L)) : Type 0 where
    pub each : (k : ℕ) (w : Walker P Q H L) → slice_get ws k ≡ Some w → IsWalker k w

module _ {P Q H L : Type 0} where
  abbrev pub IsIdle : State P Q H L → Type 0
  IsIdle (Idle p) = Unit {0}
  IsIdle _ = ⊥

  -- the caller is idle, and has no command left: it has given them all, or it stopped
  pub record IsDone (w : Walker P Q H L) : Type 0 where
    pub idle : IsIdle w.state
    pub made : w.task.stopped ≡ false → w.task.share.made ≡ w.task.share.quota
