-- The loads of the receipts' table, and what each makes of the home seat. Splitting and joining seats are the table's own.
use Rattle.std.specs.Prelude.{◌≡◌, ℕ, List, [], ◌++◌}
use Rattle.atomic_table.specs.Table.{Me, Step}
use Rattle.keep_local.specs.ReceiptRule.{AreFirst}
use Rattle.keep_local.specs.declared.turn.Turn.{Turn}
use Rattle.keep_local.specs.declared.receipt_view.ReceiptView.{ReceiptView}

abbrev pub Knower : Type 0
Knower = Me (Unit {0}) ReceiptView

-- the turns of a step whose proof picks none
abbrev pub none_closed : List Turn
none_closed = []

-- turns came to the closed ones
abbrev pub recorded_in : List Turn → ReceiptView → ReceiptView
recorded_in ts v = record v { turns = v.turns ++ ts }

abbrev pub recorded : List Turn → Step (Unit {0}) → Knower → ℕ → Knower → Type 0
recorded ts st me found me' = me' ≡ (recorded_in ts me.0, me.1)

-- nothing changes, and what the seat was shown are the first of the turns that it knows
pub record Checked (me me' : Knower) : Type 0 where
  pub view : me' ≡ me
  pub first : AreFirst me.0.shown me.0.turns

abbrev pub checked : Step (Unit {0}) → Knower → ℕ → Knower → Type 0
checked st me found me' = Checked me me'
