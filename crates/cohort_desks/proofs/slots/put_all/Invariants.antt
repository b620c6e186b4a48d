use Rattle.std.proofs.Common.{vec_len}
use Rattle.cohort_desks.proofs.Filled.{Filling}
use Rattle.cohort_desks.proofs.slots.put_all.Given as goal

-- the jobs that have left the list are in their slots
abbrev pub invariant-loop-job : goal.invariant-loop-job
invariant-loop-job g l = Filling g.J.Numbered.number g.J.Numbered.tag l.fn.slots.items l.fn.jobs.items l.slots.items l.jobs.items

abbrev pub decreases-loop-job : goal.decreases-loop-job
decreases-loop-job g l = vec_len l.jobs
