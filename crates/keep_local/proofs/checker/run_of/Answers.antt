use Rattle.std.proofs.Common.{take, get_or, ap, sym, arith}
use Rattle.std.proofs.lemmas.List.{take_more}
use Rattle.keep_local.specs.Turns.{run}
use Rattle.keep_local.proofs.Trails.{blank}
use Rattle.keep_local.proofs.Runs.{run_none, run_same, run_lower, run_higher}
use Rattle.keep_local.proofs.checker.run_of.Goals as goal
use Rattle.keep_local.proofs.checker.run_of.Goals.{then-turn-level, else-turn-level+then-turn-level-2, else-turn-level+else-turn-level-2}

pub loop-turn-init : goal.loop-turn-init
loop-turn-init c = record { few = omega arith; run = sym (run_none c.args.level) }

pub loop-turn-preserved : goal.loop-turn-preserved
loop-turn-preserved c =
    let front = take c.loop-turn.turn-index c.args.turns.now in
    let turn = get_or c.args.turns.now c.loop-turn.turn-index blank in
    let more = ap (run c.args.level) (take_more c.args.turns.now c.loop-turn.turn-index blank c.loop-turn-test.true) in
    let few = c.loop-turn.invariant.few in
    let was = c.loop-turn.invariant.run in
    elim c.if-turn-level.branch [
      | then-turn-level w ↦ let count = w.count-is in let r = run_higher c.args.level front turn w.if-turn-level.true in
          record { few = omega (arith, count); run = omega (arith, count, more, r) }
      | else-turn-level+then-turn-level-2 w ↦ let count = w.count-is in
          let r = run_same c.args.level front turn w.if-turn-level-2.true in
          record { few = omega (arith, count, few); run = omega (arith, count, was, more, r) }
      | else-turn-level+else-turn-level-2 w ↦
          let count = w.count-is in
          let r = run_lower c.args.level front turn (let within = w.if-turn-level.false in let other = w.if-turn-level-2.false in
          omega (arith, within, other)) in
          record { few = omega (arith, count, few); run = omega (arith, count, was, more, r) }
    ]
