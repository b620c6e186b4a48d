use Rattle.tree_harness.proofs.Starts.{may_try, of_quotas, of_recorded, of_shape}
use Rattle.tree_harness.proofs.trials.try_lock.Goals as goal

pub try_flat-requires-clause-may : goal.try_flat-requires-clause-may
try_flat-requires-clause-may g c κs within =
    let made = c.in-Some.ensures in
    may_try c.in-Some.start.root _ _ c.args.quotas.now _ _ _ c.requires.shaped c.requires.few c.requires.kinds c.requires.quotas made.shape
    made.kinds made.same made.quotas made.shares made.room

pub try_deep-requires-clause-may : goal.try_deep-requires-clause-may
try_deep-requires-clause-may g c κs within =
    let made = c.in-Some.ensures in
    may_try c.in-Some.start.root _ _ c.args.quotas.now _ _ _ c.requires.shaped c.requires.few c.requires.kinds c.requires.quotas made.shape
    made.kinds made.same made.quotas made.shares made.room

pub returns-then-top-eq0-clause-shape : goal.returns-then-top-eq0-clause-shape
returns-then-top-eq0-clause-shape g c =
    of_shape c.in-Some.start.root c.try_flat.result c.try_flat.ensures.tagged c.args.shape c.in-Some.ensures.same

pub returns-then-top-eq0-clause-quotas : goal.returns-then-top-eq0-clause-quotas
returns-then-top-eq0-clause-quotas g c =
    of_quotas c.in-Some.start.root c.try_flat.result c.try_flat.ensures.tagged c.args.quotas.now c.in-Some.ensures.quotas

pub returns-clause-shape : goal.returns-clause-shape
returns-clause-shape g c =
    of_shape c.in-Some.start.root c.try_deep.result c.try_deep.ensures.tagged c.args.shape c.in-Some.ensures.same

pub returns-clause-quotas : goal.returns-clause-quotas
returns-clause-quotas g c =
    of_quotas c.in-Some.start.root c.try_deep.result c.try_deep.ensures.tagged c.args.quotas.now c.in-Some.ensures.quotas

pub returns-then-top-eq0-clause-recorded : goal.returns-then-top-eq0-clause-recorded
returns-then-top-eq0-clause-recorded g c =
    of_recorded c.in-Some.start.root c.try_flat.result c.try_flat.ensures.tagged c.in-Some.ensures.room.recorded

pub returns-clause-recorded : goal.returns-clause-recorded
returns-clause-recorded g c =
    of_recorded c.in-Some.start.root c.try_deep.result c.try_deep.ensures.tagged c.in-Some.ensures.room.recorded
