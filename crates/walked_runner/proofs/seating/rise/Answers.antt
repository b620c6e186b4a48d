use Rattle.std.proofs.Common.{◌≡◌, length, ◌∙◌, arith}
use mathlib.Core.Logic.{dite}
use native.Mathlib.Decide.{ℕ_discrete}
use Rattle.clof_compose.proofs.Lists.{length_more, one_before}
use Rattle.threaded_runner.specs.Jobs.{IsServed}
use Rattle.threaded_runner.proofs.Items.{at_end, from_first, in_front}
use Rattle.walked_runner.specs.Walkers.{IsDone, IsWalker}
use Rattle.walked_runner.proofs.States.{not_other}
use Rattle.walked_runner.proofs.Tasks.{risen}
use Rattle.walked_runner.proofs.seating.rise.Goals as goal

pub unreachable-requires : goal.unreachable-requires
unreachable-requires g c =
    let done = at_end (λ k w. IsDone w) c.loop-walker.walkers.items c.pop.new.self.items c.in-Some.walker c.in-Some.ensures.items
    c.loop-walker.invariant.done in not_other c.in-Some.walker.state done.idle c.in_default-state.not-Idle

pub loop-walker-preserved : goal.loop-walker-preserved
loop-walker-preserved g c =
    let inv = c.loop-walker.invariant in
    let tag = g.C.Composed.tag c.args._lock.now in
    let fewer = length_more c.pop.new.self.items c.loop-walker.walkers.items c.in-Some.walker c.in-Some.ensures.items in
    let more = length_more c.loop-walker.jobs.items c.push_reserved.new.self.items _ c.push_reserved.ensures.items in
    let counted = inv.counted in
    let is = at_end (λ n w. IsWalker g.C.Pass.Resting.rest g.C.Queue.Climbing.climb g.C.Queue.Climbing.climbs
    g.C.Held.Standing.stand g.C.Held.Standing.stands g.C.Leave.Descending.descent g.C.Leave.Descending.descends
    (g.C.Composed.has c.args._lock.now) (g.C.Composed.level c.args._lock.now) tag n w)
    c.loop-walker.walkers.items c.pop.new.self.items c.in-Some.walker c.in-Some.ensures.items inv.each in
    let done = at_end (λ k w. IsDone w) c.loop-walker.walkers.items c.pop.new.self.items c.in-Some.walker c.in-Some.ensures.items inv.done
    in
    record {
      each = in_front (λ n w. IsWalker g.C.Pass.Resting.rest g.C.Queue.Climbing.climb g.C.Queue.Climbing.climbs
          g.C.Held.Standing.stand g.C.Held.Standing.stands g.C.Leave.Descending.descent g.C.Leave.Descending.descends
          (g.C.Composed.has c.args._lock.now) (g.C.Composed.level c.args._lock.now) tag n w)
          c.loop-walker.walkers.items c.pop.new.self.items c.in-Some.walker c.in-Some.ensures.items inv.each;
      done = in_front (λ k w. IsDone w) c.loop-walker.walkers.items c.pop.new.self.items c.in-Some.walker c.in-Some.ensures.items inv.done;
      behind = one_before (λ n j. IsServed g.C.Pass.Resting.rest (g.C.Composed.has c.args._lock.now) (g.C.Composed.level c.args._lock.now)
          tag n j) (length c.pop.new.self.items) _ c.loop-walker.jobs.items c.push_reserved.new.self.items _ fewer
          c.push_reserved.ensures.items
          (risen _ _ _ _ _ _ _ _ _ _ (length c.pop.new.self.items) c.in-Some.walker c.in-Idle.pass is done c.in-Idle.is) inv.behind;
      counted = omega (arith, fewer, more, counted);
      room = c.push_reserved.ensures.capacity ∙ inv.room;
    }

pub returns-clause-each : goal.returns-clause-each
returns-clause-each g c =
    let none : length c.loop-walker.walkers.items ≡ 0 = dite (ℕ_discrete (length c.loop-walker.walkers.items) 0) (λ e. e) (λ ne.
    let ok = c.loop-walker.walkers.ok.0 in
    let some = c.in_default.ensures.variant.1 (omega (arith, ok, ne)) in absurd (cc)) in
    from_first (λ n j. IsServed g.C.Pass.Resting.rest
    (g.C.Composed.has c.args._lock.now) (g.C.Composed.level c.args._lock.now) (g.C.Composed.tag c.args._lock.now) n j)
    (length c.loop-walker.walkers.items) _ _ none c.reverse.ensures.items c.loop-walker.invariant.behind
