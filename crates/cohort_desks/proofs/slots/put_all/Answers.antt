use Rattle.std.proofs.Common.{◌≡◌, ◌<◌, rules, subst, sym, [], length}
use Rattle.cohort_desks.specs.Slots.{IsThere}
use Rattle.cohort_desks.proofs.Filled.{none_put, one_put}
use Rattle.cohort_desks.proofs.Items.{at_end}
use Rattle.cohort_desks.proofs.slots.put_all.Goals as goal

pub loop-job-init : goal.loop-job-init
loop-job-init g c = none_put _ _ c.args.slots.items c.args.jobs.items c.requires.within

pub put_one-slots-requires : goal.put_one-slots-requires
put_one-slots-requires g c = record {
  within = subst (λ n. g.J.Numbered.number c.in-Some.job < n) (sym c.loop-job.invariant.many)
      (at_end (λ i job. g.J.Numbered.number job < length c.args.slots.items) c.loop-job.jobs.items c.pop.new.self.items c.in-Some.job
      c.in-Some.ensures.items c.loop-job.invariant.within);
}

pub loop-job-preserved : goal.loop-job-preserved
loop-job-preserved g c = one_put _ _ c.args.slots.items c.args.jobs.items c.loop-job.slots.items c.put_one-slots.result.items
    c.loop-job.jobs.items
    c.pop.new.self.items c.in-Some.job c.loop-job.invariant c.in-Some.ensures.items c.put_one-slots.ensures.put

pub returns-clause-there : goal.returns-clause-there
returns-clause-there g c =
    let none : c.loop-job.jobs.items ≡ [] = search rules in
    λ tag fit x is. subst (λ l. IsThere g.J.Numbered.number g.J.Numbered.tag tag c.loop-job.slots.items l x) none
    (c.loop-job.invariant.there tag fit x is)
