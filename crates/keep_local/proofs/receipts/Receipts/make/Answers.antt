use Rattle.keep_local.proofs.ReceiptKept.{opens}
use Rattle.keep_local.proofs.receipts.Receipts.make.Goals as goal

pub of_words-requires : goal.of_words-requires
of_words-requires c = opens _
