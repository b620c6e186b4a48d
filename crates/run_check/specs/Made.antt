-- Which lines the holds of a lock make.
use Rattle.std.specs.Prelude.{◌≡◌, ℕ, List, [], ◌∷◌, ◌++◌, length, map, Some}
use Rattle.keep_local.specs.declared.shape.Shape.{Shape}
use Rattle.keep_local.specs.declared.turn.Turn.{Turn}
use Rattle.keep_local.specs.Laws.{turn_after}
use Rattle.keep_local.specs.Turns.{Follows}
use Rattle.mc_text.specs.Request.{WholeCommand}
use Rattle.kv_history.specs.Answer.{reply_of, store_of}
use Rattle.run_texts.specs.Callers.{Placed}
use Rattle.run_texts.specs.Text.{Hold, commands_behind, next_command, turn_line, turns_behind}

-- the callers of holds
abbrev pub callers_of : List Hold → List ℕ
callers_of holds = map (λ hold. hold.caller) holds

-- the turns of holds
abbrev pub turns_of : Shape → List Hold → List Turn
turns_of shape holds = turns_behind shape [] holds

-- the turn of a hold behind others
abbrev pub next_turn : Shape → List Hold → Hold → Turn
next_turn shape before hold = turn_after shape (turns_of shape before) hold.caller hold.tests

-- A hold behind others makes a line: its caller has a command left behind theirs, its turn is lawful behind theirs, and the line is that of
-- this turn, with the reply of one thread that gives their commands and this one
pub record MakesLine (sections : List Placed) (shape : Shape) (before : List Hold) (hold : Hold) (line : List ℕ) : Type 0 where
  pub given : List WholeCommand
  pub given_are : commands_behind sections [] (callers_of before) ≡ Some given
  pub command : WholeCommand
  pub next : next_command sections (callers_of before) hold.caller ≡ Some command
  pub lawful : Follows shape (turns_of shape before) (next_turn shape before hold)
  pub line_is : line
      ≡ turn_line sections (length before) (record {
        turn = next_turn shape before hold;
        command = command.spelling;
        reply = reply_of (store_of given) command.request;
      })

-- holds behind others make lines, each the one with its place
abbrev pub MakeLines : List Placed → Shape → List Hold → List Hold → List (List ℕ) → Type 0
MakeLines sections shape before [] [] = Unit {0}
MakeLines sections shape before [] (line ∷ made) = ⊥
MakeLines sections shape before (hold ∷ holds) [] = ⊥
MakeLines sections shape before (hold ∷ holds) (line ∷ made) =
    MakesLine sections shape before hold line × MakeLines sections shape (before ++ hold ∷ []) holds made
