use Rattle.cohort_queue.proofs.Closing.{Closing}
use Rattle.cohort_queue.proofs.cohort.Cohort.close.Given as goal

abbrev pub invariant-loop-seat : goal.invariant-loop-seat
invariant-loop-seat g l = Closing l.fn.self l.initial.first l.first l.fn.seats.items l.seats.items

abbrev pub decreases-loop-seat : goal.decreases-loop-seat
decreases-loop-seat g l = goal.left-loop-seat g l
