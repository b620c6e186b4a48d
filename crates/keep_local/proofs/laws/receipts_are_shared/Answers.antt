use Rattle.keep_local.proofs.Shared.{receipt_shared}
use Rattle.keep_local.proofs.laws.receipts_are_shared.Goals as goal

pub returns : goal.returns
returns c = receipt_shared
