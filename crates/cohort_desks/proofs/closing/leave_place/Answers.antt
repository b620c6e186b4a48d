use Rattle.std.proofs.Common.{refl}
use Rattle.cohort_desks.proofs.Rows.{changed}
use Rattle.cohort_desks.proofs.closing.leave_place.Goals as goal

pub returns : goal.returns
returns g c = changed _ c.args.desks.items c.args.at c.index_mut.result.now _ c.requires.at c.index_mut.ensures.value
    (refl, c.in-Some.ensures.items)
