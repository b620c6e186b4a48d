use Rattle.std.proofs.Common.{subst, arith}
use Rattle.std.proofs.lemmas.Option.{slice_get-get_or}
use Rattle.clof_compose.specs.Courses.{course_of}
use Rattle.clof_compose.specs.Shares.{IsShareIn}
use Rattle.level_harness.specs.Walkers.{IsWalker}
use Rattle.level_harness.proofs.Items.{set_each}
use Rattle.clof_compose.proofs.Shares.{own_share}
use Rattle.level_harness.proofs.rounds.round.Goals as goal

pub step-requires-clause-share : goal.step-requires-clause-share
step-requires-clause-share g c =
    let is = c.loop-walker.invariant c.loop-walker.walker-index _ (slice_get-get_or c.loop-walker.walkers c.loop-walker.walker-index
    c.walker-item.result
    (let long = c.loop-walker.auto.walkers in let within = c.loop-walker-test.true in omega (arith, long, within))) in
    own_share _ _ _ is.share_is

pub step-requires-clause-stands : goal.step-requires-clause-stands
step-requires-clause-stands g c =
    let is = c.loop-walker.invariant c.loop-walker.walker-index _ (slice_get-get_or c.loop-walker.walkers c.loop-walker.walker-index
    c.walker-item.result
    (let long = c.loop-walker.auto.walkers in let within = c.loop-walker-test.true in omega (arith, long, within))) in
    is.stands_is

pub loop-walker-preserved : goal.loop-walker-preserved
loop-walker-preserved g c =
    let is = c.loop-walker.invariant c.loop-walker.walker-index _ (slice_get-get_or c.loop-walker.walkers c.loop-walker.walker-index
    c.walker-item.result (let long = c.loop-walker.auto.walkers in let within = c.loop-walker-test.true in omega (arith, long, within))) in
    set_each (λ k w. IsWalker g.C.Pass.Resting.rest g.C.Queue.Climbing.climb g.C.Queue.Climbing.climbs g.C.Held.Standing.stand
    g.C.Held.Standing.stands g.C.Leave.Descending.descent g.C.Leave.Descending.descends (g.C.Composed.has c.args.lock.now)
    (g.C.Composed.level c.args.lock.now) (g.C.Composed.tag c.args.lock.now) k w) c.loop-walker.walkers c.loop-walker.walker-index
    c.step.new.walker c.loop-walker.invariant (record {
      share_is = subst (λ n. IsShareIn (course_of (g.C.Composed.tag c.args.lock.now)) n c.step.new.walker.share) is.share_is.caller_is
          c.step.ensures.share;
      stands_is = c.step.ensures.stands;
    })
