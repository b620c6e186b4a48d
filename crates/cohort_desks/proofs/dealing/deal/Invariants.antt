use Rattle.std.proofs.Common.{◌≡◌, ◌≤◌, [], length}
use Rattle.cohort_desks.specs.Halls.{HasRoomFor, IsHall}
use Rattle.cohort_desks.proofs.dealing.deal.Given as goal

-- there are no more Cohorts than homes that were looked at
abbrev pub invariant-loop-node : goal.invariant-loop-node
invariant-loop-node g l = record {
  hall : IsHall g.J.Numbered.number g.J.Numbered.tag (g.T.Tells.told l.roll) [] l.hall;
  slots : length l.hall.slots.items ≡ length l.fn.hall.slots.items;
  many : length l.hall.desks.items ≡ length l.fn.hall.desks.items;
  room : HasRoomFor (length l.homes) l.hall;
  few : length l.hall.cohorts.items ≤ l.node;
}
