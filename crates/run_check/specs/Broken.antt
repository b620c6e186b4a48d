-- The first line of a printed text that can't be one of a run.
use Rattle.std.specs.Prelude.{◌≡◌, ◌≢◌, ◌⊎◌, ℕ, ◌+◌, ◌<◌, List, [], length, take, drop, IfSome, slice_get, Some, map}
use Rattle.std.specs.List.{enumerate_from}
use Rattle.keep_local.specs.declared.shape.Shape.{Shape}
use Rattle.keep_local.specs.Shapes.{top_of}
use Rattle.keep_local.specs.Turns.{last_turn}
use Rattle.run_texts.specs.Callers.{Placed}
use Rattle.run_texts.specs.Text.{Hold, caller_line}
use Rattle.run_texts.specs.Printed.{EachHoldsAll, IsRun}
use Rattle.run_check.specs.Lines.{lines, turn_count}
use Rattle.run_check.specs.Made.{MakesLine, MakeLines, turns_of}
use Rattle.run_check.specs.declared.verdict.Verdict.{Verdict}
use Rattle.run_check.specs.declared.verdict.Verdict.TheVariants.{Yes, No}

-- the lines of all callers, in order
abbrev pub callers_lines : List Placed → List (List ℕ)
callers_lines sections = map (λ at. caller_line at.0 at.1) (enumerate_from 0 sections)

-- each caller has given all its commands, and the last turn leaves at the top
pub record HaveEnded (sections : List Placed) (shape : Shape) (holds : List Hold) : Type 0 where
  pub each_own : EachHoldsAll sections holds
  pub last : IfSome (last_turn (turns_of shape holds)) (λ t. t.left ≡ top_of shape)

-- The line behind those of some holds is told to be that of a turn, and no hold behind these makes it
pub record TurnBreaks (sections : List Placed) (shape : Shape) (holds : List Hold) (all : List (List ℕ)) (number : ℕ) : Type 0 where
  pub place : number ≡ length holds
  pub line : List ℕ
  pub line_is : slice_get all number ≡ Some line
  pub told : number < turn_count all
  pub none : (hold : Hold) → MakesLine sections shape holds hold line → ⊥

-- It isn't told to be that of a turn, and there have to be more turns
pub record EndBreaks (sections : List Placed) (shape : Shape) (holds : List Hold) (all : List (List ℕ)) (number : ℕ) : Type 0 where
  pub place : number ≡ length holds
  pub told : number ≡ turn_count all
  pub more : HaveEnded sections shape holds → ⊥

-- There are no more turns, the lines of the first callers stand behind those of the turns, and what stands behind these isn't the line of
-- the next caller: another line does, or none, or one behind the last caller's
pub record CallerBreaks (sections : List Placed) (shape : Shape) (holds : List Hold) (all : List (List ℕ)) (number : ℕ) : Type 0 where
  pub caller : ℕ
  pub place : number ≡ length holds + caller
  pub told : length holds ≡ turn_count all
  pub ended : HaveEnded sections shape holds
  pub callers : take caller (drop (length holds) all) ≡ take caller (callers_lines sections)
  pub other : slice_get all number ≢ slice_get (callers_lines sections) caller

-- The line with this number is the first broken one: holds make the lines of turns before it, and one of these three comes behind them
pub record IsFirstBroken (sections : List Placed) (shape : Shape) (printed : List ℕ) (number : ℕ) : Type 0 where
  pub holds : List Hold
  pub made : MakeLines sections shape [] holds (take (length holds) (lines printed))
  pub breaks : TurnBreaks sections shape holds (lines printed) number
      ⊎ EndBreaks sections shape holds (lines printed) number
      ⊎ CallerBreaks sections shape holds (lines printed) number

-- what is said of a printed text
abbrev pub IsVerdict : List Placed → Shape → List ℕ → Verdict → Type 0
IsVerdict sections shape printed Yes = IsRun sections shape printed
IsVerdict sections shape printed (No line) = IsFirstBroken sections shape printed line
