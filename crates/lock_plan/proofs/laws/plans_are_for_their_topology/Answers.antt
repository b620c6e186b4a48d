use Rattle.lock_plan.proofs.Plans.{plan_is_for}
use Rattle.lock_plan.proofs.laws.plans_are_for_their_topology.Goals as goal

pub returns : goal.returns
returns c = λ described levels locks keeps plan is.
    plan_is_for described locks keeps plan is.levels_are is.kinds_are is.keeps_are
