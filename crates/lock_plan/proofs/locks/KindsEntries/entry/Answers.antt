use Rattle.std.proofs.Common.{refl}
use Rattle.lock_plan.specs.Plans.{kind_named}
use Rattle.lock_plan.proofs.locks.KindsEntries.entry.Goals as goal

pub returns-clause-empty : goal.returns-clause-empty
unfolding kind_named
returns-clause-empty c = refl
