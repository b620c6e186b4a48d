use Rattle.std.proofs.Common.{◌≤◌, subst, sym}
use Rattle.cohort_desks.proofs.Rows.{desk_added, room_added}
use Rattle.cohort_desks.proofs.opening.desks.Goals as goal

pub loop-number-preserved : goal.loop-number-preserved
loop-number-preserved g c = record {
  desks = desk_added _ _ c.loop-number.desks.items c.push_reserved.new.self.items c.in-Some.desk c.loop-number.number c.args.cohorts
      c.loop-number.invariant.desks c.push_reserved.ensures.items c.in-Some.ensures;
  room = room_added c.args.cohorts c.loop-number.number c.loop-number.desks.items c.push_reserved.new.self.items c.in-Some.desk
      c.loop-number.invariant.room c.push_reserved.ensures.items c.in-Some.ensures;
  list_room = subst (λ n. c.args.threads ≤ n) (sym c.push_reserved.ensures.capacity) c.loop-number.invariant.list_room;
}
