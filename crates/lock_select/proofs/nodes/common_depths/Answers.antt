use Rattle.std.proofs.Common.{arith}
use Rattle.lock_select.proofs.nodes.common_depths.Goals as goal

pub returns : goal.returns
returns c =
    let count = c.loop-turn.invariant.count in
    let within = c.loop-turn.invariant.within in
    let over = c.loop-turn-test.false in
    record { count = omega (arith, count, within, over); are = c.loop-turn.invariant.are }
