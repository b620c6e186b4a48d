use Rattle.std.proofs.Common.{◌≡◌, ℕ, ◌+◌, ◌++◌, ◌∷◌, [], ap, refl, sym, ◌∙◌, subst, length, append_assoc, length-append}
use Rattle.cohort_desks.proofs.Items.{one_more_item}
use Rattle.cohort_runner.specs.Callers.{CallerState}
use Rattle.cohort_runner.specs.Rolls.{contexts_of, roll_tag}
use Rattle.cohort_runner.proofs.Seated.{next_caller}
use Rattle.threaded_runner.specs.Jobs.{IsServed}
use Rattle.threaded_runner.specs.declared.job.Job.{Job}
use Rattle.cohort_runner.proofs.ending.serve_rest.Goals as goal

pub unreachable-requires : goal.unreachable-requires
unreachable-requires g c =
    let seated = next_caller (roll_tag (contexts_of g.C.Pass.Resting.rest c.args.roll.now.told.value.items)) c.args.slots.items
    c.loop-slot.yielded c.loop-slot.slot-iterator.rest.items c.next.new.self.rest.items c.in-Some.slot c.loop-slot.invariant.all
    c.in-Some.ensures.steps.0 c.requires.full in
    c.in_default.not-Some seated.caller seated.is

pub job_of-job-requires : goal.job_of-job-requires
job_of-job-requires g c κs =
    let seated = next_caller (roll_tag (contexts_of g.C.Pass.Resting.rest c.args.roll.now.told.value.items)) c.args.slots.items
    c.loop-slot.yielded c.loop-slot.slot-iterator.rest.items c.next.new.self.rest.items c.in-Some.slot c.loop-slot.invariant.all
    c.in-Some.ensures.steps.0 c.requires.full in
    let is = c.in-Some-slot.is in
    let was = seated.is in
    let same : c.in-Some-slot.caller ≡ seated.caller = cc in
    ((refl, tt), (c.requires.roll, ap (λ (s : CallerState). s.tag) same ∙ seated.tag_is))

pub loop-slot-preserved : goal.loop-slot-preserved
loop-slot-preserved g c =
    let inv = c.loop-slot.invariant in
    let seated = next_caller (roll_tag (contexts_of g.C.Pass.Resting.rest c.args.roll.now.told.value.items)) c.args.slots.items
    c.loop-slot.yielded c.loop-slot.slot-iterator.rest.items c.next.new.self.rest.items c.in-Some.slot inv.all
    c.in-Some.ensures.steps.0 c.requires.full in
    let is = c.in-Some-slot.is in
    let was = seated.is in
    let same : c.in-Some-slot.caller ≡ seated.caller = cc in
    let served = λ (k : ℕ) (j : Job g.row.C-Pass.Denot). IsServed g.C.Pass.Resting.rest
    (g.C.Composed.has c.args.lock.now) (g.C.Composed.level c.args.lock.now) (g.C.Composed.tag c.args.lock.now) k j in
    let many = inv.many in
    let number = c.job_of-job.ensures.job.share_is.caller_is ∙ (ap (λ (s : CallerState). s.number) same ∙ (seated.number_is ∙ sym many)) in
    record {
      all = inv.all ∙ (ap (λ l. c.loop-slot.yielded ++ l) c.in-Some.ensures.steps.0
          ∙ sym (append_assoc c.loop-slot.yielded (c.in-Some.slot ∷ []) c.next.new.self.rest.items));
      many = ap (λ l. length l) c.push_reserved.ensures.items
          ∙ (length-append c.loop-slot.jobs.items (c.serve_out.result ∷ [])
          ∙ (ap (λ n. n + 1) many ∙ sym (length-append c.loop-slot.yielded (c.in-Some.slot ∷ []))));
      each = one_more_item served c.loop-slot.jobs.items c.push_reserved.new.self.items c.serve_out.result c.push_reserved.ensures.items
          inv.each (subst (λ n. served n c.serve_out.result) number c.serve_out.ensures.served);
      room = c.push_reserved.ensures.capacity ∙ inv.room;
    }
