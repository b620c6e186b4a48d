use Rattle.std.proofs.Common.{refl}
use Rattle.cohort_desks.proofs.Seated.{keep, put_back}
use Rattle.cohort_desks.proofs.taking.settle.Goals as goal

pub returns-then-back-clause-place : goal.returns-then-back-clause-place
returns-then-back-clause-place g c = put_back _ _ c.args.cohort.now c.args.place.now _ _ _ c.requires.taken c.put.ensures.back refl

pub returns-else-back-clause-place : goal.returns-else-back-clause-place
returns-else-back-clause-place g c =
    keep _ _ c.args.cohort.now c.args.place.now _ c.args.job c.requires.taken refl c.push_reserved.ensures.items
    c.push_reserved.ensures.capacity
