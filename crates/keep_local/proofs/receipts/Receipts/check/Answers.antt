use Rattle.std.proofs.Common.{rules}
use Rattle.keep_local.proofs.ReceiptKept.{checks, copies, shows}
use Rattle.keep_local.proofs.receipts.Receipts.check.Goals as goal

pub split_seat-copy-requires : goal.split_seat-copy-requires
split_seat-copy-requires c = (search rules, search rules, copies _ _)

pub join_seat-requires : goal.join_seat-requires
join_seat-requires c = (search rules, search rules, search rules, search rules, shows _ _ _ _)

pub load-requires : goal.load-requires
load-requires c = (search rules, search rules, checks _ _ _ (search rules))
