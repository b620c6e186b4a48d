use Rattle.std.proofs.Common.{◌<◌, refl, subst, sym}
use Rattle.cohort_queue.specs.Numbers.{IsIn}
use Rattle.cohort_desks.proofs.Leaving.{all_drained, one_drained}
use Rattle.cohort_desks.proofs.closing.drain.Goals as goal

pub returns-in_default-clause-all : goal.returns-in_default-clause-all
returns-in_default-clause-all g c = all_drained _ _ c.args.rest.numbers c.args.rest.tag c.args.slots.items c.loop.slots.items c.loop.rest
    c.loop.invariant (c.in_default.ensures.all.0 refl)

pub put_one-slots-requires : goal.put_one-slots-requires
put_one-slots-requires g c = record {
  within = subst (λ n. g.J.Numbered.number c.in-Some-next.job < n) (sym c.loop.invariant.many)
      (c.requires.within (g.J.Numbered.number c.in-Some-next.job)
      (subst (IsIn (g.J.Numbered.number c.in-Some-next.job)) c.loop.invariant.numbers_are c.in-Some-next.ensures.given));
}

pub loop-preserved : goal.loop-preserved
loop-preserved g c = one_drained _ _ c.args.rest.numbers c.args.rest.tag c.args.slots.items c.loop.slots.items c.put_one-slots.result.items
    c.loop.rest c.next-in-loop.new.self c.in-Some-next.job c.loop.invariant c.requires.within c.in-Some-next.ensures.same.0
    c.in-Some-next.ensures.same.1
    c.in-Some-next.ensures.tagged c.in-Some-next.ensures.given c.in-Some-next.ensures.out c.put_one-slots.ensures.put
