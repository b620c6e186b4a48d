use Rattle.tree_trials.proofs.Seats.{all_back}
use Rattle.tree_trials.proofs.tests.cohorts.served.Goals as goal

pub by_all-seats-requires-clause-allowed : goal.by_all-seats-requires-clause-allowed
by_all-seats-requires-clause-allowed g c κs within i seat at = (c.in_ok-cohort.ensures.seats.each i seat at).0

pub close-requires : goal.close-requires
close-requires g c = record {
  all = all_back c.in_ok-cohort.cohort c.in_ok-cohort.seats.items c.by_all-seats.result.items c.in_ok-cohort.ensures.seats
      c.by_all-seats.ensures.many c.by_all-seats.ensures.each;
}
