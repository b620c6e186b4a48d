use Rattle.std.proofs.Common.{rules}
use Rattle.keep_local.proofs.ReceiptKept.{copies}
use Rattle.keep_local.proofs.receipts.Receipts.give.Goals as goal

pub split_seat-seat-requires : goal.split_seat-seat-requires
split_seat-seat-requires c = (c.self.invariant.own, search rules, copies _ _)
