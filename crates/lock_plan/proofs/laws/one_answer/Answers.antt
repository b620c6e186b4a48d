use Rattle.lock_plan.proofs.Plans.{not_both, plan_found}
use Rattle.lock_plan.proofs.laws.one_answer.Goals as goal

pub returns-clause-either : goal.returns-clause-either
returns-clause-either c = not_both

pub returns-clause-one : goal.returns-clause-one
returns-clause-one c = plan_found
