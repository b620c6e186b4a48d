use Rattle.std.proofs.Common.{length, map, subst, sym}
use Rattle.cohort_queue.specs.Numbers.{IsIn}
use Rattle.cohort_desks.specs.Halls.{IsHall}
use Rattle.cohort_desks.specs.Makings.{IsMaking}
use Rattle.cohort_desks.specs.Slots.{AreFit}
use Rattle.cohort_desks.proofs.Kept.{have_one_tag, in_map, tag_told}
use Rattle.cohort_desks.proofs.dealing.add_cohort.Goals as goal

pub new-requires-clause-tag : goal.new-requires-clause-tag
new-requires-clause-tag g c = have_one_tag _ _ (g.T.Tells.told c.args.roll.now) c.args.jobs.items _ c.requires.fit

pub with_cohort-requires-clause-hall : goal.with_cohort-requires-clause-hall
with_cohort-requires-clause-hall g c =
    subst (λ l. IsHall g.J.Numbered.number g.J.Numbered.tag (g.T.Tells.told c.args.roll.now) l c.args.hall) (sym c.in-Ok.ensures.numbers)
    c.requires.hall

pub with_cohort-requires-clause-cohort : goal.with_cohort-requires-clause-cohort
with_cohort-requires-clause-cohort g c = record {
  tag_is = tag_told g.J.Numbered.number g.J.Numbered.tag (g.T.Tells.told c.args.roll.now) c.args.jobs.items _ c.in-Ok.making.cohort
      c.requires.fit c.requires.some
      c.in-Ok.ensures.tagged;
  seats_are = (subst (λ n. IsMaking n c.in-Ok.making) c.requires.many c.in-Ok.ensures.made).count_is;
  within = λ x is. in_map g.J.Numbered.number g.J.Numbered.tag (g.T.Tells.told c.args.roll.now) c.args.jobs.items _ x c.requires.fit
      (subst (IsIn x) c.in-Ok.ensures.numbers is);
}

pub with_cohort-requires-clause-making : goal.with_cohort-requires-clause-making
with_cohort-requires-clause-making g c = subst (λ n. IsMaking n c.in-Ok.making) c.requires.many c.in-Ok.ensures.made

pub with_jobs-requires-clause-hall : goal.with_jobs-requires-clause-hall
with_jobs-requires-clause-hall g c =
    subst (λ v. IsHall g.J.Numbered.number g.J.Numbered.tag (g.T.Tells.told c.args.roll.now) (map g.J.Numbered.number v.items) c.args.hall)
    (sym c.in-Err.ensures.refused) c.requires.hall

pub with_jobs-requires-clause-fit : goal.with_jobs-requires-clause-fit
with_jobs-requires-clause-fit g c =
    subst (λ v. AreFit g.J.Numbered.number g.J.Numbered.tag (g.T.Tells.told c.args.roll.now) (length c.args.hall.slots.items) v.items)
    (sym c.in-Err.ensures.refused) c.requires.fit
