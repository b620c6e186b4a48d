use Rattle.lock_callers.specs.Seen.{AreOf}
use Rattle.lock_callers.proofs.Named.{at_some_lock}
use Rattle.lock_callers.proofs.making.make_callers.Goals as goal

pub returns-clause-callers : goal.returns-clause-callers
returns-clause-callers g c = at_some_lock (λ lock made. AreOf lock made.items) c.callers_of.result _ c.callers_of.ensures.callers
