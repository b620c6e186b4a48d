use Rattle.std.proofs.Common.{length}
use Rattle.mc_text.specs.Commands.{commands_left}
use Rattle.history_trials.proofs.tests.drills.replay.Given as goal

abbrev pub decreases-loop-command : goal.decreases-loop-command
decreases-loop-command l = length (commands_left l.commands)
