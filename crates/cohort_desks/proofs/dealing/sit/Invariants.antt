use Rattle.std.proofs.Common.{◌≡◌, length, vec_capacity, vec_len}
use Rattle.cohort_desks.proofs.Rows.{Sitting}
use Rattle.cohort_desks.proofs.dealing.sit.Given as goal

abbrev pub invariant-loop-seat : goal.invariant-loop-seat
invariant-loop-seat g l = record {
  sitting : Sitting g.J.Numbered.number g.J.Numbered.tag l._cohorts l._cohort l.fn.desks.items l.desks.items l.seats.items l.lists.items;
  as_many : length l.lists.items ≡ length l.seats.items;
  room : vec_capacity l.seats ≡ vec_capacity l.fn.seats;
}

abbrev pub decreases-loop-seat : goal.decreases-loop-seat
decreases-loop-seat g l = vec_len l.seats
