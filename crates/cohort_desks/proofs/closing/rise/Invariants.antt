use Rattle.std.proofs.Common.{◌≡◌, length, vec_capacity}
use Rattle.cohort_desks.proofs.Leaving.{Leaving}
use Rattle.cohort_desks.proofs.closing.rise.Given as goal

abbrev pub invariant-loop-at : goal.invariant-loop-at
invariant-loop-at g l = record {
  leaving : Leaving g.J.Numbered.number g.J.Numbered.tag l._cohorts l._cohort l.fn.slots.items l.desks.items l.seats.items l.slots.items
      l.at;
  many : length l.desks.items ≡ length l.fn.desks.items;
  room : vec_capacity l.seats ≡ vec_capacity l.fn.seats;
}
