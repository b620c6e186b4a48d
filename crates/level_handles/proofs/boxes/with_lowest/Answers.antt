use Rattle.std.proofs.Common.{refl}
use Rattle.lock_levels.proofs.Raised.{risen}
use Rattle.level_handles.proofs.boxes.with_lowest.Goals as goal

pub callers_for-requires-clause-raised : goal.callers_for-requires-clause-raised
callers_for-requires-clause-raised g c = risen 0 c.in-Some.ensures.raised 0 refl
