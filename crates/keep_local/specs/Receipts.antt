-- What a receipt, and the table that receipts come from, are seen as.
use Rattle.std.specs.Prelude.{◌≡◌, ◌≤◌, true, false, List, [], ◌∷◌, length, All}
use Rattle.atomic_table.specs.Seated.{TableId}
use Rattle.keep_local.specs.States.{ReceiptState, NotesState, all_tests, no_receipt}
use Rattle.keep_local.specs.declared.receipt.ClosedReceipt.TheInside.{Inside}
use Rattle.keep_local.specs.declared.receipt_view.ReceiptView.{ReceiptView}
use Rattle.keep_local.specs.declared.receipts.Receipts.TheInside as table

-- what a badge at this table tells: nothing where it is no seat
abbrev pub told_by : TableId → List ReceiptView → ReceiptState
told_by name [] = no_receipt
told_by name (v ∷ vs) = record { name = name; tests = all_tests v.turns }

abbrev pub receipt_state : Inside → ReceiptState
receipt_state r = told_by r.badge.table_id r.badge.views

-- a receipt is one seat that isn't home, or none
pub record IsReceipt (r : Inside) : Type 0 where
  pub one : length r.badge.views ≤ 1
  pub away : All (λ v. v.home ≡ false) r.badge.views

abbrev pub notes_state : table.Inside → NotesState
notes_state r = record { name = r.table.shared.table_id; turns = r.home.me.0.turns }

-- the home seat is at this table, which has one word
pub record HasHome (r : table.Inside) : Type 0 where
  pub own : r.home.table_id ≡ r.table.shared.table_id
  pub one_word : r.table.shared.table_id.words ≡ 1
  pub home : r.home.me.0.home ≡ true
  pub no_slot : r.home.me.1 ≡ []
