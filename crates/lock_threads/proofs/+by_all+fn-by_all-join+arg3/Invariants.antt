use Rattle.std.proofs.Common.{length}
use Rattle.lock_threads.proofs.+by_all+fn-by_all-join+arg3.Given as goal

-- each call has one job fewer
abbrev pub decreases-by_all : goal.decreases-by_all
decreases-by_all g l = length l.jobs.items

abbrev pub decreases-join+arg3 : goal.decreases-join+arg3
decreases-join+arg3 g l = length l.jobs.items
