use Rattle.cohort_queue.proofs.Closing.{last_seat}
use Rattle.tree_trials.proofs.Seats.{first_of_two}
use Rattle.tree_trials.proofs.tests.cohorts.both_seats.Goals as goal

pub returns-clause-first : goal.returns-clause-first
returns-clause-first c = first_of_two c.args.cohort.now c.args.seats.items _ _ _ _ c.requires.all c.requires.two
    c.in_ok-second.ensures.items c.in_ok-first.ensures.items

pub returns-clause-second : goal.returns-clause-second
returns-clause-second c =
    let is = last_seat c.args.cohort.now c.args.seats.items _ _ c.requires.all c.in_ok-second.ensures.items in (is.0, is.1)
