use Rattle.fresh_root.proofs.Shared.{history_shared}
use Rattle.fresh_root.proofs.laws.histories_may_be_shared.Goals as goal

pub returns : goal.returns
returns c = history_shared
