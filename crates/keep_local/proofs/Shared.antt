-- A receipt may be shared between threads: it owns a view alone, and a view may go to another thread.
use denote.RattleType.{RattleType}
use denote.Param.Send.{IsSync, part_keyless, sendable}
use Rattle.atomic_table.proofs.badge.Badge.TheSendSync as badge
use Rattle.atomic_table.specs.contracts.badge.Badge as Badge
use Rattle.keep_local.specs.contracts.receipt.ClosedReceipt as ClosedReceipt
use Rattle.keep_local.specs.contracts.receipt_view.ReceiptView as ReceiptView

badge_shared : (V : RattleType) → IsSync (Badge.the_row V)
badge_shared V = record { shared = λ d b o κ q. part_keyless (Badge.the_row V) (badge.the_send V) q d b o }

pub receipt_shared : IsSync ClosedReceipt.the_row
receipt_shared = let view = badge_shared ReceiptView.the_row in search sendable depth 20
