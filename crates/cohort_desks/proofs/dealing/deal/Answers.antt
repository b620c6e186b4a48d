use Rattle.std.proofs.Common.{◌∙◌, refl, sym, length, arith}
use Rattle.cohort_desks.proofs.Kept.{room_less}
use Rattle.cohort_desks.proofs.dealing.deal.Goals as goal

pub loop-node-init : goal.loop-node-init
loop-node-init g c = record {
  hall = c.requires.hall;
  slots = refl;
  many = refl;
  room = c.requires.room;
  few = let none = c.requires.no_cohort in omega (arith, none);
}

pub deal_home-hall-requires-clause-room : goal.deal_home-hall-requires-clause-room
deal_home-hall-requires-clause-room g c =
    let few = c.loop-node.invariant.few in
    let below = c.loop-node-test.true in
    room_less _ (length c.args.homes.now) c.loop-node.hall (omega (arith, few, below)) c.loop-node.invariant.room

pub deal_home-hall-requires-clause-homes : goal.deal_home-hall-requires-clause-homes
deal_home-hall-requires-clause-homes g c = c.requires.homes ∙ sym c.loop-node.invariant.slots

pub deal_home-hall-requires-clause-many : goal.deal_home-hall-requires-clause-many
deal_home-hall-requires-clause-many g c = c.requires.many ∙ sym c.loop-node.invariant.many

pub loop-node-preserved : goal.loop-node-preserved
loop-node-preserved g c =
    let inv = c.loop-node.invariant in
    let few = inv.few in
    let dealt = c.deal_home-hall.ensures in
    let more = dealt.few in
    record {
      hall = dealt.hall;
      slots = dealt.slots ∙ inv.slots;
      many = dealt.many ∙ inv.many;
      room = dealt.room _ inv.room;
      few = omega (arith, few, more);
    }
