use Rattle.cohort_queue.proofs.Giving.{Giving}
use Rattle.cohort_queue.proofs.cohort.give_all.Given as goal

abbrev pub invariant-loop-job : goal.invariant-loop-job
invariant-loop-job g l = Giving g.J.Numbered.number g.J.Numbered.tag l.fn.jobs.items l.yielded l.job-iterator.rest.items l.fn.first l.first
