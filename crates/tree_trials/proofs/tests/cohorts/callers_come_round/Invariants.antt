use Rattle.std.proofs.Common.{◌≡◌}
use Rattle.cohort_queue.specs.States.{IsSeatOf}
use Rattle.tree_trials.proofs.tests.cohorts.callers_come_round.Given as goal

abbrev pub invariant-loop-want : goal.invariant-loop-want
invariant-loop-want g l = record { of : IsSeatOf l.cohort l.first; number : l.first.seat ≡ 1 }
