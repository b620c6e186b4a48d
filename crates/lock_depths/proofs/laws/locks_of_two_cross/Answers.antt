use Rattle.lock_depths.proofs.SentDepths.{two_crosses}
use Rattle.lock_depths.proofs.laws.locks_of_two_cross.Goals as goal

pub returns : goal.returns
returns c = two_crosses
