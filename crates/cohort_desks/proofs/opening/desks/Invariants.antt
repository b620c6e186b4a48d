use Rattle.std.proofs.Common.{◌≤◌, [], vec_capacity}
use Rattle.cohort_desks.specs.Desks.{AreDesks, HaveRoom}
use Rattle.cohort_desks.proofs.opening.desks.Given as goal

abbrev pub invariant-loop-number : goal.invariant-loop-number
invariant-loop-number g l = record {
  desks : AreDesks g.J.Numbered.number g.J.Numbered.tag [] l.number l.desks.items;
  room : HaveRoom l.cohorts l.desks.items;
  list_room : l.threads ≤ vec_capacity l.desks;
}
