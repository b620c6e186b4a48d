use Rattle.std.proofs.Common.{◌≡◌, ◌<◌, ◌∙◌, [], rules, refl, sym, length, arith}
use Rattle.cohort_desks.proofs.Items.{length_more}
use Rattle.cohort_desks.proofs.Rows.{all_sit, none_sits, one_sits}
use Rattle.cohort_desks.proofs.dealing.sit.Goals as goal

pub loop-seat-init : goal.loop-seat-init
loop-seat-init g c = record {
  sitting = none_sits _ _ c.args._cohorts.now c.args._cohort.now c.args.desks.items c.args.seats.items c.args.lists.items c.requires.desks
      c.requires.room c.requires.seats c.requires.none_out c.requires.many c.requires.lists;
  as_many = c.requires.many ∙ sym c.requires.seats.all;
  room = refl;
}

pub add_place-desks-requires-clause-at : goal.add_place-desks-requires-clause-at
add_place-desks-requires-clause-at g c =
    let at : c.len.result ≡ length c.pop.new.self.items = search rules in
    let one = length_more c.pop.new.self.items c.loop-seat.seats.items c.in-Some.seat c.in-Some.ensures.items in
    let few = c.loop-seat.invariant.sitting.few in
    let many = c.loop-seat.invariant.sitting.many in omega (arith, at, one, few, many)

pub add_place-desks-requires-clause-room : goal.add_place-desks-requires-clause-room
add_place-desks-requires-clause-room g c d e =
    let at : c.len.result ≡ length c.pop.new.self.items = search rules in
    let one = length_more c.pop.new.self.items c.loop-seat.seats.items c.in-Some.seat c.in-Some.ensures.items in
    let within : c.len.result < length c.loop-seat.seats.items = omega (arith, at, one) in
    let room = c.loop-seat.invariant.sitting.room c.len.result d within e in
    let many = (c.loop-seat.invariant.sitting.below c.len.result d within e).1.many in omega (arith, room, many)

pub loop-seat-preserved : goal.loop-seat-preserved
loop-seat-preserved g c =
    let inv = c.loop-seat.invariant in
    let at : c.len.result ≡ length c.pop.new.self.items = search rules in
    let next = one_sits _ _ c.args._cohorts.now c.args._cohort.now c.args.desks.items c.loop-seat.desks.items c.add_place-desks.result.items
    c.loop-seat.seats.items c.pop.new.self.items c.loop-seat.lists.items c.pop-in-Some.new.self.items c.in-Some.seat c.in-Some-pop.kept
    c.len.result inv.sitting c.in-Some.ensures.items c.in-Some-pop.ensures.items at c.add_place-desks.ensures in
    record {
      sitting = next;
      as_many = next.lists_many;
      room = c.in-Some.ensures.capacity ∙ inv.room;
    }

pub returns-clause-desks : goal.returns-clause-desks
returns-clause-desks g c =
    let none : c.loop-seat.seats.items ≡ [] = search rules in
    all_sit _ _ c.args._cohorts.now c.args._cohort.now c.args.desks.items c.loop-seat.desks.items c.loop-seat.seats.items
    c.loop-seat.lists.items
    c.loop-seat.invariant.sitting none

pub returns-clause-room : goal.returns-clause-room
returns-clause-room g c = c.loop-seat.invariant.sitting.rooms

pub returns-clause-emptied : goal.returns-clause-emptied
returns-clause-emptied g c = search rules

pub returns-clause-seats_room : goal.returns-clause-seats_room
returns-clause-seats_room g c =
    let ok = c.args.seats.ok in
    let all = c.requires.seats.all in
    let room = c.loop-seat.invariant.room in
    let same = c.pop.ensures.capacity in omega (arith, ok, all, room, same)
