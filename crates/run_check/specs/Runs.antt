-- A run under way.
use Rattle.std.specs.Prelude.{◌≡◌, ◌≢◌, ℕ, ◌+◌, Option, Some, None, List, [], ◌∷◌, ◌++◌, length, map, slice_get, take}
use Rattle.std.specs.Borrow.{Bor}
use Rattle.keep_local.specs.declared.shape.Shape.{Shape}
use Rattle.keep_local.specs.declared.turn.Turn.{Turn}
use Rattle.keep_local.specs.States.{callers_in}
use Rattle.keep_local.specs.Turns.{IsLawful}
use Rattle.kv_history.specs.Log.{Log, Logged, NoneVoid, calls}
use Rattle.run_texts.specs.Entries.{told_entry}
use Rattle.run_texts.specs.Callers.{Placed}
use Rattle.run_texts.specs.Text.{Hold, caller_lines, turn_line}
use Rattle.run_check.specs.Broken.{callers_lines}
use Rattle.run_check.specs.Lines.{lines}
use Rattle.run_check.specs.Made.{MakesLine}
use Rattle.run_check.specs.Readings.{told_hold}
use Rattle.run_check.specs.Turns.{IsNextTurn}
use Rattle.run_check.specs.declared.verdict.Verdict.{Verdict}
use Rattle.run_check.specs.declared.verdict.Verdict.TheVariants.{Yes, No}
use Rattle.run_check.specs.declared.run.Run.TheInside.{Inside}

-- the turns of the lines so far, and the journal of their commands
pub record Course : Type 0 where
  pub turns : List Turn
  pub log : Log

abbrev pub course_of : Inside → Course
course_of run = record { turns = run.turns; log = run.replay }

-- the holds of turns
abbrev pub holds_of : List Turn → List Hold
holds_of turns = map (λ turn. record { caller = turn.caller; tests = turn.tests }) turns

-- the turns are lawful, and the journal is that of the sections, with the commands of the turns' callers, all of which were applied
pub record IsUnderWay (sections : List Placed) (shape : Shape) (course : Course) : Type 0 where
  pub same : course.log.sections ≡ map (λ section. section.bytes) sections
  pub lawful : IsLawful shape course.turns
  pub called : calls course.log ≡ callers_in course.turns
  pub whole : NoneVoid course.log.entries

-- one more hold made the line at the front of a text
pub record HasMade (sections : List Placed) (shape : Shape) (before after : Course) (text rest : List ℕ) : Type 0 where
  pub turn : Turn
  pub turns : after.turns ≡ before.turns ++ turn ∷ []
  pub under_way : IsUnderWay sections shape after
  pub entry : Logged
  pub entries : after.log.entries ≡ before.log.entries ++ entry ∷ []
  pub line : List ℕ
  pub line_is : line ≡ turn_line sections (length before.log.entries) (told_entry turn entry)
  pub made : MakesLine sections shape (holds_of before.turns) (record { caller = turn.caller; tests = turn.tests }) line
  pub text_is : text ≡ line ++ rest

-- a text tells a hold whose turn follows others, and which one
pub record HasNextTurn (shape : Shape) (before : List Turn) (text : List ℕ) (turn : Turn) : Type 0 where
  pub hold : Hold
  pub told : told_hold text ≡ Some hold
  pub next : IsNextTurn shape before hold turn

abbrev pub TellsNoTurn : Shape → List Turn → List ℕ → Type 0
TellsNoTurn shape before text = (turn : Turn) → HasNextTurn shape before text turn → ⊥

-- whether a hold makes a line there
abbrev pub Makes : List Placed → Shape → Course → Course → List ℕ → Option (Bor (List ℕ)) → Type 0
Makes sections shape before after text None =
    (hold : Hold) (line rest : List ℕ) → MakesLine sections shape (holds_of before.turns) hold line → text ≡ line ++ rest → ⊥
Makes sections shape before after text (Some rest) = HasMade sections shape before after text rest.now

-- the lines of the first callers stand at the front of a text, and behind them another one than the next caller's, or none
pub record OtherLine (sections : List Placed) (text : List ℕ) (caller : ℕ) : Type 0 where
  pub callers : take caller (lines text) ≡ take caller (callers_lines sections)
  pub other : slice_get (lines text) caller ≢ slice_get (callers_lines sections) caller

-- what is said of a text behind the lines of all turns, whose first line has this number
abbrev pub IsCallersVerdict : List Placed → List ℕ → ℕ → Verdict → Type 0
IsCallersVerdict sections text first Yes = text ≡ caller_lines sections
IsCallersVerdict sections text first (No line) = (caller : ℕ) × (line ≡ first + caller) × OtherLine sections text caller
