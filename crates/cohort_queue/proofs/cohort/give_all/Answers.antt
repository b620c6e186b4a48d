use Rattle.std.proofs.Common.{refl, map, ap, sym, ◌∙◌, ◌∷◌, ◌++◌, [], append_assoc, subst}
use Rattle.cohort_queue.proofs.Kept.{no_length}
use Rattle.cohort_queue.proofs.Giving.{all_given, none_given, not_before, may_tag, one_more_given, room_left}
use Rattle.cohort_queue.specs.Numbers.{AreDistinct}
use Rattle.cohort_queue.proofs.cohort.give_all.Goals as goal

pub loop-job-init : goal.loop-job-init
loop-job-init g c = record {
  pass = (refl, refl, refl);
  given = none_given _ _ _ c.requires.view;
  all = sym c.into_iter-job-iterator.ensures.into_iter_gives.0;
}

pub give-requires-clause-queue : goal.give-requires-clause-queue
give-requires-clause-queue g c = let p = c.loop-job.invariant.pass in let q = c.requires.queue in
    ((p.0 ∙ q.0.0, p.2 ∙ q.0.1), p.1 ∙ q.1)

pub give-requires-clause-alone : goal.give-requires-clause-alone
give-requires-clause-alone g c = c.loop-job.invariant.given.unsplit

pub give-requires-clause-room : goal.give-requires-clause-room
give-requires-clause-room g c = room_left _ _ _ _ _ _ _ _
    (c.loop-job.invariant.all ∙ ap (λ l. c.loop-job.yielded ++ l) c.in-Some.ensures.steps.0) c.requires.room c.loop-job.invariant.given

pub give-requires-clause-new : goal.give-requires-clause-new
give-requires-clause-new g c = not_before _ _ _ _ _ _
    (subst (λ l. AreDistinct (map g.J.Numbered.number l))
    (c.loop-job.invariant.all ∙ ap (λ l. c.loop-job.yielded ++ l) c.in-Some.ensures.steps.0) c.requires.distinct) c.loop-job.invariant.given

pub give-requires-clause-tag : goal.give-requires-clause-tag
give-requires-clause-tag g c = may_tag _ _ _ _ _ _ _
    (c.loop-job.invariant.all ∙ ap (λ l. c.loop-job.yielded ++ l) c.in-Some.ensures.steps.0) c.requires.tag c.loop-job.invariant.given

pub loop-job-preserved : goal.loop-job-preserved
loop-job-preserved g c =
    let had = c.loop-job.invariant in
    let all = had.all ∙ ap (λ l. c.loop-job.yielded ++ l) c.in-Some.ensures.steps.0 in
    let same = c.give.ensures.queue in record {
      pass = (same.0 ∙ had.pass.0, same.1 ∙ had.pass.1, same.2 ∙ had.pass.2);
      given = one_more_given _ _ _ _ _ _ _ _ all c.requires.tag had.given c.give.ensures.given;
      all = all ∙ sym (append_assoc c.loop-job.yielded (c.in-Some.job ∷ []) c.next.new.self.rest.items);
    }

pub returns-clause-queue : goal.returns-clause-queue
returns-clause-queue g c = c.loop-job.invariant.pass

pub returns-clause-given : goal.returns-clause-given
returns-clause-given g c = let it = c.loop-job.job-iterator.rest in
    all_given _ _ _ _ _ _ _ c.loop-job.invariant (no_length it.items (sym it.ok.0 ∙ c.in-None.ensures.steps.0))
