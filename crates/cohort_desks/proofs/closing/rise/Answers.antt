use Rattle.std.proofs.Common.{◌≡◌, ◌<◌, ◌∙◌, rules, refl, sym, subst, length, arith}
use Rattle.cohort_desks.specs.Halls.{IsCohortOf}
use Rattle.cohort_desks.proofs.Leaving.{all_left, has_place, kept_fit, none_left, one_left}
use Rattle.cohort_desks.proofs.closing.rise.Goals as goal

pub loop-at-init : goal.loop-at-init
loop-at-init g c = record {
  leaving = none_left _ _ c.args._cohorts.now c.args._cohort.now c.args.slots.items c.args.desks.items c.args.seats.items c.requires.desks
      (sym c.requires.cohort.seats_are) c.requires.empty c.requires.own;
  many = refl;
  room = refl;
}

pub leave_place-left-requires-clause-at : goal.leave_place-left-requires-clause-at
leave_place-left-requires-clause-at g c =
    let below = c.loop-at-test.true in
    let many = c.loop-at.invariant.many in omega (arith, below, many)

pub leave_place-left-requires-clause-some : goal.leave_place-left-requires-clause-some
leave_place-left-requires-clause-some g c d e =
    has_place _ _ c.args._cohorts.now c.args._cohort.now c.args.slots.items c.loop-at.slots.items c.loop-at.desks.items
    c.loop-at.seats.items
    c.loop-at.at c.loop-at.invariant.leaving d e

pub put_all-slots-requires : goal.put_all-slots-requires
put_all-slots-requires g c =
    let below = c.loop-at-test.true in
    let many = c.loop-at.invariant.many in
    let inside : c.loop-at.at < length c.loop-at.desks.items = omega (arith, below, many) in
    let of = subst (λ n. IsCohortOf c.args._cohort.now.tag (length c.args.slots.items) n c.args._cohort.now) (sym many) c.requires.cohort in
    let fit = kept_fit _ _ c.args._cohorts.now c.args._cohort.now c.args.slots.items c.loop-at.slots.items c.loop-at.desks.items
    c.leave_place-left.result.0.items c.loop-at.seats.items c.loop-at.at c.leave_place-left.result.1 c.loop-at.invariant.leaving inside
    c.leave_place-left.ensures of in
    record { within = λ i job e. (fit i job e).0 }

pub loop-at-preserved : goal.loop-at-preserved
loop-at-preserved g c =
    let below = c.loop-at-test.true in
    let inv = c.loop-at.invariant in
    let many = inv.many in
    let inside : c.loop-at.at < length c.loop-at.desks.items = omega (arith, below, many) in
    let of = subst (λ n. IsCohortOf c.args._cohort.now.tag (length c.args.slots.items) n c.args._cohort.now) (sym many) c.requires.cohort in
    let fit = kept_fit _ _ c.args._cohorts.now c.args._cohort.now c.args.slots.items c.loop-at.slots.items c.loop-at.desks.items
    c.leave_place-left.result.0.items c.loop-at.seats.items c.loop-at.at c.leave_place-left.result.1 inv.leaving inside
    c.leave_place-left.ensures of in
    record {
      leaving = one_left _ _ c.args._cohorts.now c.args._cohort.now c.args.slots.items c.loop-at.slots.items c.loop-at.desks.items
          c.leave_place-left.result.0.items c.loop-at.seats.items c.loop-at.at c.leave_place-left.result.1 inv.leaving inside
          c.leave_place-left.ensures of c.put_all-slots.result.items c.push_reserved.new.self.items c.put_all-slots.ensures.many
          (c.put_all-slots.ensures.own c.args._cohort.now.tag fit inv.leaving.own)
          (λ x is. c.put_all-slots.ensures.there c.args._cohort.now.tag fit x is) c.push_reserved.ensures.items;
      many = c.leave_place-left.ensures.many ∙ inv.many;
      room = c.push_reserved.ensures.capacity ∙ inv.room;
    }

pub returns-clause-desks : goal.returns-clause-desks
returns-clause-desks g c =
    let many = c.loop-at.invariant.many in
    let done : c.loop-at.at ≡ length c.args.desks.items = search rules in
    (all_left _ _ c.args._cohorts.now c.args._cohort.now c.args.slots.items c.loop-at.slots.items c.loop-at.desks.items
    c.loop-at.seats.items
    c.loop-at.at (length c.args.desks.items) c.loop-at.invariant.leaving (done ∙ sym many) (sym c.requires.cohort.seats_are)).0
