use Rattle.std.proofs.Common.{◌+◌, ◌*◌, ◌≤◌}
use Rattle.lock_select.specs.Walks.{HasWalked}
use Rattle.lock_select.proofs.question.Question.cost.Given as goal

-- so many turns were handed on
abbrev pub invariant-loop-common : goal.invariant-loop-common
invariant-loop-common l = record {
  walked : HasWalked l.self.tree.now l.self.weights.now l.depths l.self.keep l.self.trace.now l.common-index l.runs l.cost;
  bound : l.cost ≤ (l.common-index + 1) * 5000000;
}
