use Rattle.std.proofs.Common.{◌≡◌, ◌++◌, ◌∷◌, [], length}
use Rattle.mc_text.specs.Commands.{commands_left}
use Rattle.mc_text.specs.Reading.{commands_of}
use Rattle.kv_history.specs.Log.{commands, own, NoneVoid}
use Rattle.history_trials.proofs.tests.applied.Given as goal

abbrev pub invariant-loop-command : goal.invariant-loop-command
invariant-loop-command l = record {
  section : l.journal.sections ≡ l.section ∷ [];
  alone : own l.journal.entries 0 ≡ commands l.journal.entries;
  next : commands_of l.section ≡ commands l.journal.entries ++ commands_left l.commands;
  done : NoneVoid l.journal.entries;
}

abbrev pub decreases-loop-command : goal.decreases-loop-command
decreases-loop-command l = length (commands_left l.commands)
