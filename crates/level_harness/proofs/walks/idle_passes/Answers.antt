use Rattle.std.proofs.Common.{◌≡◌, length, reverse, ap, sym, ◌∙◌, subst, arith}
use Rattle.std.proofs.lemmas.List.{length-reverse}
use mathlib.Core.Logic.{dite}
use native.Mathlib.Decide.{ℕ_discrete}
use Rattle.clof_compose.specs.Passes.{AreFrom, IsNumber}
use Rattle.clof_compose.proofs.Lists.{from_none, length_more, one_before}
use Rattle.level_harness.specs.Walkers.{IsDone, IsWalker, Stands}
use Rattle.level_harness.proofs.Items.{at_end, in_front}
use Rattle.level_harness.proofs.States.{not_other}
use Rattle.level_harness.proofs.walks.idle_passes.Goals as goal

pub unreachable-requires : goal.unreachable-requires
unreachable-requires g c =
    let done = at_end (λ k w. IsDone w) c.loop-walker.walkers.items c.pop.new.self.items c.in-Some.walker c.in-Some.ensures.items
    c.loop-walker.invariant.done in not_other c.in-Some.walker.state done.idle c.in_default-state.not-Idle

pub loop-walker-preserved : goal.loop-walker-preserved
loop-walker-preserved g c =
    let inv = c.loop-walker.invariant in
    let fewer = length_more c.pop.new.self.items c.loop-walker.walkers.items c.in-Some.walker c.in-Some.ensures.items in
    let more = length_more c.loop-walker.passes.items c.push_reserved.new.self.items c.in-Idle.pass c.push_reserved.ensures.items in
    let counted = inv.counted in
    let is = at_end (λ n w. IsWalker g.C.Pass.Resting.rest g.C.Queue.Climbing.climb g.C.Queue.Climbing.climbs
    g.C.Held.Standing.stand g.C.Held.Standing.stands g.C.Leave.Descending.descent g.C.Leave.Descending.descends
    (g.C.Composed.has c.args._lock.now) (g.C.Composed.level c.args._lock.now) (g.C.Composed.tag c.args._lock.now) n w)
    c.loop-walker.walkers.items c.pop.new.self.items c.in-Some.walker c.in-Some.ensures.items inv.each in
    let stands = subst (λ s. Stands g.C.Pass.Resting.rest g.C.Queue.Climbing.climb g.C.Queue.Climbing.climbs g.C.Held.Standing.stand
    g.C.Held.Standing.stands g.C.Leave.Descending.descent g.C.Leave.Descending.descends (g.C.Composed.has c.args._lock.now)
    (g.C.Composed.level c.args._lock.now) (g.C.Composed.tag c.args._lock.now) s c.in-Some.walker.share) c.in-Idle.is is.stands_is in
    record {
      each = in_front (λ n w. IsWalker g.C.Pass.Resting.rest g.C.Queue.Climbing.climb g.C.Queue.Climbing.climbs
          g.C.Held.Standing.stand g.C.Held.Standing.stands g.C.Leave.Descending.descent g.C.Leave.Descending.descends
          (g.C.Composed.has c.args._lock.now) (g.C.Composed.level c.args._lock.now) (g.C.Composed.tag c.args._lock.now) n w)
          c.loop-walker.walkers.items c.pop.new.self.items c.in-Some.walker c.in-Some.ensures.items inv.each;
      done = in_front (λ k w. IsDone w) c.loop-walker.walkers.items c.pop.new.self.items c.in-Some.walker c.in-Some.ensures.items inv.done;
      behind = one_before (λ n p. IsNumber (g.C.Composed.has c.args._lock.now) (g.C.Composed.level c.args._lock.now)
          (g.C.Composed.tag c.args._lock.now) n (g.C.Pass.Resting.rest p).context) (length c.pop.new.self.items) _
          c.loop-walker.passes.items c.push_reserved.new.self.items c.in-Idle.pass fewer c.push_reserved.ensures.items
          (subst (λ n. IsNumber (g.C.Composed.has c.args._lock.now) (g.C.Composed.level c.args._lock.now)
          (g.C.Composed.tag c.args._lock.now) n (g.C.Pass.Resting.rest c.in-Idle.pass).context) is.share_is.caller_is stands) inv.behind;
      counted = omega (arith, fewer, more, counted);
      room = c.push_reserved.ensures.capacity ∙ inv.room;
    }

pub returns : goal.returns
returns g c =
    let none : length c.loop-walker.walkers.items ≡ 0 = dite (ℕ_discrete (length c.loop-walker.walkers.items) 0) (λ e. e) (λ ne.
    let ok = c.loop-walker.walkers.ok.0 in
    let some = c.in_default.ensures.variant.1 (omega (arith, ok, ne)) in absurd (cc)) in
    let counted = c.loop-walker.invariant.counted in
    let turned = c.reverse.ensures.items in
    let all = ap length turned ∙ length-reverse c.loop-walker.passes.items in
    let behind = subst (λ n. AreFrom (λ p. (g.C.Pass.Resting.rest p).context) (g.C.Composed.has c.args._lock.now) (g.C.Composed.level
    c.args._lock.now) (g.C.Composed.tag c.args._lock.now) n (reverse c.loop-walker.passes.items)) none c.loop-walker.invariant.behind in
    from_none _ _ _ _ c.reverse.new.self.items _ (omega (arith, all, none, counted)) (subst (λ l. AreFrom (λ p. (g.C.Pass.Resting.rest
    p).context) (g.C.Composed.has c.args._lock.now) (g.C.Composed.level c.args._lock.now) (g.C.Composed.tag c.args._lock.now) 0 l) (sym
    turned) behind)
