use Rattle.std.proofs.Common.{◌≡◌, ◌≤◌, length, vec_capacity}
use Rattle.lock_rules.specs.Tag.{Tag}
use Rattle.cohort_desks.specs.Slots.{AreOwn}
use Rattle.cohort_desks.proofs.Filled.{Gathering}
use Rattle.cohort_desks.proofs.slots.gather.Given as goal

-- the jobs below this place were looked at
abbrev pub invariant-loop-place : goal.invariant-loop-place
invariant-loop-place g l = record {
  many : length l.slots.items ≡ length l.fn.slots.items;
  short : length l.list.items ≤ l.place;
  room : vec_capacity l.list ≡ vec_capacity l.fn.list;
  gathering : (tag : Tag) → AreOwn g.J.Numbered.number g.J.Numbered.tag tag l.fn.slots.items
      → Gathering g.J.Numbered.number g.J.Numbered.tag tag l.fn.slots.items l.slots.items l.list.items l.place;
}
