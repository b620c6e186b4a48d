use Rattle.std.proofs.Common.{◌≡◌, take}
use Rattle.std.specs.Prelude.{sum_by}
use Rattle.kv_history.proofs.journal.commands_in.Given as goal

abbrev pub invariant-loop-caller : goal.invariant-loop-caller
invariant-loop-caller l = l.commands ≡ sum_by (λ caller. caller.tally.commands) (take l.caller-index l.callers)
