use Rattle.cohort_queue.proofs.Stand.{none_lost}
use Rattle.cohort_queue.proofs.laws.none_is_lost_or_doubled.Goals as goal

pub returns : goal.returns
returns g c = none_lost _ _
