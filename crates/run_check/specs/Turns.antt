-- The turns of the lines so far, and the one that may come next.
use Rattle.std.specs.Prelude.{◌≡◌, ℕ, ◌<◌, List, length, slice_index}
use Rattle.keep_local.specs.declared.shape.Shape.{Shape}
use Rattle.keep_local.specs.declared.turn.Turn.{Turn}
use Rattle.keep_local.specs.Turns.{run, Follows}
use Rattle.run_texts.specs.Text.{Hold}
use Rattle.run_check.specs.declared.turns.Turns.TheInside.{Inside}

-- the turn is that of a hold, and follows these turns
pub record IsNextTurn (shape : Shape) (before : List Turn) (hold : Hold) (turn : Turn) : Type 0 where
  pub caller : turn.caller ≡ hold.caller
  pub tests : turn.tests ≡ hold.tests
  pub follows : Follows shape before turn

-- there is no such turn
abbrev pub HasNoTurn : Shape → List Turn → Hold → Type 0
HasNoTurn shape before hold = (turn : Turn) → IsNextTurn shape before hold turn → ⊥

-- there is a counter for each level, which has its run
pub record AreCounted (turns : Inside) : Type 0 where
  pub counters : length turns.runs ≡ 33
  pub runs : (level : ℕ) → level < 33 → slice_index turns.runs level ≡ run level turns.list.items
