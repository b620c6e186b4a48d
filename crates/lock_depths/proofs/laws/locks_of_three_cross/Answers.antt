use Rattle.lock_depths.proofs.SentDepths.{three_crosses}
use Rattle.lock_depths.proofs.laws.locks_of_three_cross.Goals as goal

pub returns : goal.returns
returns c = three_crosses
