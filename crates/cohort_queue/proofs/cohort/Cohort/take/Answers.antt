use Rattle.crossbeam_queue.specs.Passes.{view}
use Rattle.cohort_queue.proofs.Kept.{takes, stood}
use Rattle.cohort_queue.proofs.Giving.{live_one}
use Rattle.cohort_queue.proofs.cohort.Cohort.take.Goals as goal

pub pop_as-requires-clause-rule : goal.pop_as-requires-clause-rule
pop_as-requires-clause-rule g c = (takes _ _ _ _ (live_one (view c.seat.inside.place) c.seat.invariant.one), stood _ _ _ _)
