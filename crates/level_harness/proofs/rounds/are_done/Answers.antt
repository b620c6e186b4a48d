use Rattle.std.proofs.Common.{arith}
use Rattle.std.proofs.lemmas.Option.{slice_get_within}
use Rattle.level_harness.specs.Walkers.{IsDone}
use Rattle.level_harness.proofs.Items.{below_item}
use Rattle.level_harness.proofs.rounds.are_done.Goals as goal

pub loop-walker-preserved : goal.loop-walker-preserved
loop-walker-preserved g c = below_item (λ w. IsDone w) c.args.walkers.now c.loop-walker.walker-index c.walker-item.result
    c.loop-walker.invariant c.loop-walker-test.true c.walker-item.is (c.is_done.ensures c.if-not-is_done.false)

pub returns : goal.returns
returns g c = λ yes k w e. c.loop-walker.invariant k w
    (let within = slice_get_within c.args.walkers.now k w e in let end = c.loop-walker-test.false in omega (arith, within, end)) e
