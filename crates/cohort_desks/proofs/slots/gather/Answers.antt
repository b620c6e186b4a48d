use Rattle.std.proofs.Common.{◌∙◌, ap, refl, length, sym, arith}
use Rattle.cohort_desks.proofs.Filled.{gathered_on, moved_many, moved_short, none_gathered}
use Rattle.cohort_desks.proofs.slots.gather.Goals as goal

pub loop-place-init : goal.loop-place-init
loop-place-init g c = record {
  many = refl;
  short = let none = ap length c.requires.empty in omega (arith, none);
  room = refl;
  gathering = λ tag own. none_gathered _ _ tag c.args.slots.items c.args.list.items c.requires.empty own;
}

pub move_home-requires-clause-homes : goal.move_home-requires-clause-homes
move_home-requires-clause-homes g c = c.requires.homes ∙ sym c.loop-place.invariant.many

pub move_home-requires-clause-within : goal.move_home-requires-clause-within
move_home-requires-clause-within g c =
    let many = c.loop-place.invariant.many in
    let homes = c.requires.homes in
    let below = c.loop-place-test.true in omega (arith, many, homes, below)

pub move_home-requires-clause-room : goal.move_home-requires-clause-room
move_home-requires-clause-room g c =
    let short = c.loop-place.invariant.short in
    let room = c.loop-place.invariant.room in
    let enough = c.requires.room in
    let below = c.loop-place-test.true in omega (arith, short, room, enough, below)

pub loop-place-preserved : goal.loop-place-preserved
loop-place-preserved g c =
    let inv = c.loop-place.invariant in
    let moved = c.move_home.ensures.moved in
    let short = inv.short in
    let longer = moved_short g.J.Numbered.number g.J.Numbered.tag c.loop-place.slots.items c.move_home.result.0.items
    c.loop-place.list.items
    c.move_home.result.1.items c.loop-place.place moved in
    let many = inv.many in
    let homes = c.requires.homes in
    let below = c.loop-place-test.true in
    record {
      many = moved_many g.J.Numbered.number g.J.Numbered.tag c.loop-place.slots.items c.move_home.result.0.items c.loop-place.list.items
          c.move_home.result.1.items c.loop-place.place moved ∙ inv.many;
      short = omega (arith, short, longer);
      room = c.move_home.ensures.room ∙ inv.room;
      gathering = λ tag own. gathered_on g.J.Numbered.number g.J.Numbered.tag tag c.args.slots.items c.loop-place.slots.items
          c.move_home.result.0.items c.loop-place.list.items c.move_home.result.1.items c.loop-place.place
          (omega (arith, many, homes, below)) (inv.gathering tag own) moved;
    }

pub returns : goal.returns
returns g c = record { gathered = λ tag own. (c.loop-place.invariant.gathering tag own).so_far }
