use Rattle.std.proofs.Common.{◌<◌, vec_capacity}
use Rattle.cohort_queue.proofs.Splitting.{Splitting}
use Rattle.cohort_queue.proofs.cohort.split.Given as goal

abbrev pub invariant-loop : goal.invariant-loop
invariant-loop g l = Splitting l.fn.first l.first l.counter l.list.items × (l.fn.seats < vec_capacity l.list)
