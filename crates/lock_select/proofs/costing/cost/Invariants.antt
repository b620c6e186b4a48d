use Rattle.std.proofs.Common.{◌-◌, ◌*◌, ◌≤◌}
use Rattle.lock_select.specs.Walks.{HasWalked}
use Rattle.lock_select.proofs.costing.cost.Given as goal

-- so many turns were handed on
abbrev pub invariant-loop-turn : goal.invariant-loop-turn
invariant-loop-turn g l = record {
  walked : HasWalked l.tree l.weights l.depths l.keep l.trace (l.turn - 1) l.runs l.cost;
  bound : l.cost ≤ l.turn * 5000000;
}
