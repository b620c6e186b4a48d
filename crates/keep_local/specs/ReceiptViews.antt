-- What the seats of the receipts' table know.
use Rattle.std.specs.Prelude.{true, false, []}
use Rattle.keep_local.specs.declared.receipt_view.ReceiptView.{ReceiptView}

-- the first seat, before any turn
abbrev pub before_turns : ReceiptView
before_turns = record { home = true; turns = []; shown = [] }

-- a seat that knows no turn, as one that was joined into another
abbrev pub no_turns : ReceiptView
no_turns = record { home = false; turns = []; shown = [] }

-- a seat that another is split off from stays as it is, and the other knows the same closed turns
abbrev pub itself : ReceiptView → ReceiptView
itself v = v

abbrev pub copy_of : ReceiptView → ReceiptView
copy_of v = record { home = false; turns = v.turns; shown = [] }

-- a seat that was shown what another knows
abbrev pub shown_to : ReceiptView → ReceiptView → ReceiptView
shown_to v w = record v { shown = w.turns }
