use Rattle.std.proofs.Common.{◌≡◌}
use Rattle.cohort_queue.specs.States.{IsSeatOf}
use Rattle.tree_trials.proofs.tests.cohorts.turns.Given as goal

abbrev pub invariant-loop : goal.invariant-loop
invariant-loop g l = record { of : IsSeatOf l.cohort l.seat; same : l.seat.seat ≡ l.fn.seat.seat }
