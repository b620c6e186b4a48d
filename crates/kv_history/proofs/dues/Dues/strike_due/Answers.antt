use Rattle.std.proofs.Common.{arith}
use Rattle.kv_history.proofs.Listed.{none_listed, struck_off}
use Rattle.kv_history.proofs.dues.Dues.strike_due.Goals as goal

pub returns-then-branch-from-clause-none : goal.returns-then-branch-from-clause-none
returns-then-branch-from-clause-none c =
    λ time key soon. none_listed c.in_ok-first.field-0.now time key c.args.self.now.order.keys c.in_ok-first.ensures.all_from
    (omega (arith, soon, c.from.ensures, c.if-branch-from.true))

pub returns-clause-struck : goal.returns-clause-struck
returns-clause-struck c = struck_off c.args.self.now.order c.pop_first.new.self c.pop_first.result c.pop_first.ensures.updates
