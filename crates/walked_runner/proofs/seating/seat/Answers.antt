use Rattle.std.proofs.Common.{◌≡◌, ℕ, length, ◌∙◌, arith}
use mathlib.Core.Logic.{dite}
use native.Mathlib.Decide.{ℕ_discrete}
use Rattle.clof_compose.proofs.Lists.{length_more, one_before}
use Rattle.threaded_runner.specs.Jobs.{IsJob}
use Rattle.threaded_runner.proofs.Items.{at_end, from_first, in_front}
use Rattle.walked_runner.specs.Walkers.{IsWalker}
use Rattle.walked_runner.proofs.Tasks.{seated}
use Rattle.walked_runner.proofs.seating.seat.Goals as goal

pub loop-job-preserved : goal.loop-job-preserved
loop-job-preserved g c =
    let inv = c.loop-job.invariant in
    let tag = g.C.Composed.tag c.args._lock.now in
    let fewer = length_more c.pop.new.self.items c.loop-job.jobs.items c.in-Some.job c.in-Some.ensures.items in
    let more = length_more c.loop-job.walkers.items c.push_reserved.new.self.items _ c.push_reserved.ensures.items in
    let counted = inv.counted in
    let is_job : ℕ → _ → Type 0 = λ k j. IsJob g.C.Pass.Resting.rest (g.C.Composed.has c.args._lock.now)
    (g.C.Composed.level c.args._lock.now) tag k j in
    let is = at_end is_job c.loop-job.jobs.items c.pop.new.self.items c.in-Some.job c.in-Some.ensures.items inv.jobs in
    record {
      jobs = in_front is_job c.loop-job.jobs.items c.pop.new.self.items c.in-Some.job c.in-Some.ensures.items inv.jobs;
      behind = one_before (λ n w. IsWalker g.C.Pass.Resting.rest g.C.Queue.Climbing.climb g.C.Queue.Climbing.climbs
          g.C.Held.Standing.stand g.C.Held.Standing.stands g.C.Leave.Descending.descent g.C.Leave.Descending.descends
          (g.C.Composed.has c.args._lock.now) (g.C.Composed.level c.args._lock.now) tag n w)
          (length c.pop.new.self.items) _ c.loop-job.walkers.items c.push_reserved.new.self.items _ fewer c.push_reserved.ensures.items
          (seated _ _ _ _ _ _ _ _ _ _ (length c.pop.new.self.items) c.in-Some.job c.walker_of.result is c.walker_of.ensures.state
          c.walker_of.ensures.share c.walker_of.ensures.commands) inv.behind;
      counted = omega (arith, fewer, more, counted);
      room = c.push_reserved.ensures.capacity ∙ inv.room;
      emptied = c.in-Some.ensures.capacity ∙ inv.emptied;
    }

pub returns-clause-each : goal.returns-clause-each
returns-clause-each g c =
    let none : length c.loop-job.jobs.items ≡ 0 = dite (ℕ_discrete (length c.loop-job.jobs.items) 0) (λ e. e) (λ ne.
    let ok = c.loop-job.jobs.ok.0 in
    let some = c.in_default.ensures.variant.1 (omega (arith, ok, ne)) in absurd (cc)) in
    from_first (λ n w. IsWalker g.C.Pass.Resting.rest g.C.Queue.Climbing.climb g.C.Queue.Climbing.climbs
    g.C.Held.Standing.stand g.C.Held.Standing.stands g.C.Leave.Descending.descent g.C.Leave.Descending.descends
    (g.C.Composed.has c.args._lock.now) (g.C.Composed.level c.args._lock.now) (g.C.Composed.tag c.args._lock.now) n w)
    (length c.loop-job.jobs.items) _ _ none c.reverse.ensures.items c.loop-job.invariant.behind
