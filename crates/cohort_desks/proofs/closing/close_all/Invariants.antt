use Rattle.std.proofs.Common.{◌≡◌, ◌+◌, [], length}
use Rattle.cohort_desks.specs.Halls.{IsHall}
use Rattle.cohort_desks.proofs.closing.close_all.Given as goal

-- as many Cohorts are left as were not taken apart
abbrev pub invariant-loop : goal.invariant-loop
invariant-loop g l = record {
  hall : IsHall g.J.Numbered.number g.J.Numbered.tag (g.T.Tells.told l.roll) [] l.hall;
  slots : length l.hall.slots.items ≡ length l.fn.hall.slots.items;
  counted : length l.hall.cohorts.items + l.counter ≡ length l.fn.hall.cohorts.items;
}
