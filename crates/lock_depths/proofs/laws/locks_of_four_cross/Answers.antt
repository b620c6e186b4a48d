use Rattle.lock_depths.proofs.SentDepths.{four_crosses}
use Rattle.lock_depths.proofs.laws.locks_of_four_cross.Goals as goal

pub returns : goal.returns
returns c = four_crosses
