use Rattle.std.proofs.Common.{◌≡◌, length, refl, ◌∙◌, arith}
use mathlib.Core.Logic.{dite}
use native.Mathlib.Decide.{ℕ_discrete}
use Rattle.clof_compose.proofs.Lists.{length_more, one_before}
use Rattle.threaded_runner.proofs.Items.{at_end, from_first, in_front}
use Rattle.cohort_runner.specs.Callers.{IsCaller}
use Rattle.cohort_runner.specs.Rolls.{contexts_of, roll_tag}
use Rattle.cohort_runner.proofs.Seated.{IsSeated, full_slots, own_slots}
use Rattle.cohort_runner.proofs.opening.seat_all.Goals as goal

pub on-requires : goal.on-requires
on-requires g c =
    let rest = g.Q.Resting.rest in
    let roll = contexts_of rest c.args.roll.now.told.value.items in
    (at_end (λ k j. IsCaller rest roll j × (j.share.caller ≡ k)) c.loop-job.jobs.items c.pop.new.self.items c.in-Some.job
    c.in-Some.ensures.items c.loop-job.invariant.jobs).0

pub with_slot-slots-requires : goal.with_slot-slots-requires
with_slot-slots-requires g c =
    let inv = c.loop-job.invariant in
    let fewer = length_more c.pop.new.self.items c.loop-job.jobs.items c.in-Some.job c.in-Some.ensures.items in
    let counted = inv.counted in
    let fits = c.requires.room in
    let room = inv.room in record { room = omega (arith, fewer, counted, fits, room) }

pub loop-job-preserved : goal.loop-job-preserved
loop-job-preserved g c =
    let rest = g.Q.Resting.rest in
    let roll = contexts_of rest c.args.roll.now.told.value.items in
    let inv = c.loop-job.invariant in
    let n = length c.pop.new.self.items in
    let fewer = length_more c.pop.new.self.items c.loop-job.jobs.items c.in-Some.job c.in-Some.ensures.items in
    let more = length_more c.loop-job.slots.items c.with_slot-slots.result.items _ c.with_slot-slots.ensures.more in
    let here = at_end (λ k j. IsCaller rest roll j × (j.share.caller ≡ k)) c.loop-job.jobs.items c.pop.new.self.items c.in-Some.job
    c.in-Some.ensures.items inv.jobs in
    let counted = inv.counted in
    record {
      jobs = in_front (λ k j. IsCaller rest roll j × (j.share.caller ≡ k)) c.loop-job.jobs.items c.pop.new.self.items c.in-Some.job
          c.in-Some.ensures.items inv.jobs;
      behind = one_before (IsSeated (roll_tag roll)) n _ c.loop-job.slots.items c.with_slot-slots.result.items _ fewer
          c.with_slot-slots.ensures.more
          (record { caller = c.on.result; is = refl; number_is = c.on.ensures.number ∙ here.1; tag_is = c.on.ensures.tag }) inv.behind;
      counted = omega (arith, fewer, more, counted);
      room = c.with_slot-slots.ensures.room ∙ inv.room;
      jobs_room = c.in-Some.ensures.capacity ∙ inv.jobs_room;
    }

pub returns-clause-own : goal.returns-clause-own
returns-clause-own g c =
    let roll = contexts_of g.Q.Resting.rest c.args.roll.now.told.value.items in
    let none : length c.loop-job.jobs.items ≡ 0 = dite (ℕ_discrete (length c.loop-job.jobs.items) 0) (λ e. e) (λ ne.
    let ok = c.loop-job.jobs.ok.0 in
    let some = c.in_default.ensures.variant.1 (omega (arith, ok, ne)) in absurd (cc)) in
    own_slots (roll_tag roll) _ (from_first (IsSeated (roll_tag roll)) (length c.loop-job.jobs.items) _ _ none c.reverse.ensures.items
    c.loop-job.invariant.behind)

pub returns-clause-full : goal.returns-clause-full
returns-clause-full g c =
    let roll = contexts_of g.Q.Resting.rest c.args.roll.now.told.value.items in
    let none : length c.loop-job.jobs.items ≡ 0 = dite (ℕ_discrete (length c.loop-job.jobs.items) 0) (λ e. e) (λ ne.
    let ok = c.loop-job.jobs.ok.0 in
    let some = c.in_default.ensures.variant.1 (omega (arith, ok, ne)) in absurd (cc)) in
    full_slots (roll_tag roll) _ (from_first (IsSeated (roll_tag roll)) (length c.loop-job.jobs.items) _ _ none c.reverse.ensures.items
    c.loop-job.invariant.behind)
