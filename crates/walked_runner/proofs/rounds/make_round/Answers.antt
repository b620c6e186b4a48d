use Rattle.std.proofs.Common.{refl, ◌∙◌, subst, arith}
use Rattle.std.proofs.lemmas.List.{length-set}
use Rattle.std.proofs.lemmas.Option.{slice_get-get_or, slice_get_within}
use Rattle.clof_compose.specs.Courses.{course_of}
use Rattle.clof_compose.specs.Shares.{IsShareIn}
use Rattle.walked_runner.specs.Steps.{HasStepped}
use Rattle.walked_runner.specs.Walkers.{IsWalker}
use Rattle.walked_runner.proofs.Items.{others_more, set_each, stepped_more}
use Rattle.walked_runner.proofs.Tasks.{shares_at, stands_at}
use Rattle.walked_runner.proofs.rounds.make_round.Goals as goal

pub loop-walker-init : goal.loop-walker-init
loop-walker-init g c = record {
  each = c.requires.each;
  shares = shares_at _ _ _ _ _ _ _ _ _ _ c.args.walkers.now _ refl c.requires.each;
  stands = stands_at _ _ _ _ _ _ _ _ _ _ c.args.walkers.now _ refl c.requires.each;
  stepped = λ k w w' within. absurd (omega (arith, within));
  others = λ k within. refl;
}

pub loop-walker-preserved : goal.loop-walker-preserved
loop-walker-preserved g c =
    let item = slice_get-get_or c.loop-walker.walkers c.loop-walker.walker-index c.walker-item.result
    (let long = c.loop-walker.auto.walkers in let within = c.loop-walker-test.true in omega (arith, long, within)) in
    let is = c.loop-walker.invariant.each c.loop-walker.walker-index _ item in
    let each = set_each (λ k w. IsWalker g.C.Pass.Resting.rest g.C.Queue.Climbing.climb g.C.Queue.Climbing.climbs g.C.Held.Standing.stand
    g.C.Held.Standing.stands g.C.Leave.Descending.descent g.C.Leave.Descending.descends (g.C.Composed.has c.args.lock.now)
    (g.C.Composed.level c.args.lock.now) (g.C.Composed.tag c.args.lock.now) k w) c.loop-walker.walkers c.loop-walker.walker-index
    c.step.new.walker c.loop-walker.invariant.each (record {
      share_is = subst (λ n. IsShareIn (course_of (g.C.Composed.tag c.args.lock.now)) n c.step.new.walker.task.share)
          is.share_is.caller_is c.step.ensures.share;
      stands_is = c.step.ensures.stands;
    }) in
    let many = length-set c.loop-walker.walkers c.loop-walker.walker-index c.step.new.walker ∙ c.loop-walker.auto.walkers in
    record {
      each = each;
      shares = shares_at _ _ _ _ _ _ _ _ _ _ _ _ many each;
      stands = stands_at _ _ _ _ _ _ _ _ _ _ _ _ many each;
      stepped = stepped_more (λ w w'. HasStepped g.C.Queue.Climbing.climb g.C.Leave.Descending.descent w w') c.args.walkers.now
          c.loop-walker.walkers c.loop-walker.walker-index _ c.step.new.walker item c.step.ensures.stepped
          c.loop-walker.invariant.others c.loop-walker.invariant.stepped;
      others = others_more (λ w w'. HasStepped g.C.Queue.Climbing.climb g.C.Leave.Descending.descent w w') c.args.walkers.now
          c.loop-walker.walkers c.loop-walker.walker-index _ c.step.new.walker item c.step.ensures.stepped
          c.loop-walker.invariant.others;
    }

pub returns-clause-stepped : goal.returns-clause-stepped
returns-clause-stepped g c = λ k w w' e e'. c.loop-walker.invariant.stepped k w w'
    (let within = slice_get_within c.loop-walker.walkers k w' e' in let end = c.loop-walker-test.false in
    let long = c.loop-walker.auto.walkers in omega (arith, within, end, long)) e e'
