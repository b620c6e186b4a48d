use Rattle.std.proofs.Common.{rules}
use Rattle.keep_local.proofs.ReceiptKept.{records}
use Rattle.keep_local.proofs.receipts.Receipts.record_as.Goals as goal

pub load-requires : goal.load-requires
load-requires g c = (search rules, search rules, records _ _ _ _ (search rules))
