use Rattle.std.proofs.Common.{ap, length}
use Rattle.cohort_desks.proofs.Kept.{seated}
use Rattle.cohort_desks.proofs.opening.seat.Goals as goal

pub returns-clause-hall : goal.returns-clause-hall
returns-clause-hall g c = seated _ _ (g.T.Tells.told c.args._roll.now) c.args.hall c.args.slots c.requires.empty.no_cohort
    c.requires.empty.no_list c.requires.empty.no_place
    c.requires.own c.requires.full

pub returns-clause-no_cohort : goal.returns-clause-no_cohort
returns-clause-no_cohort g c = ap length c.requires.empty.no_cohort
