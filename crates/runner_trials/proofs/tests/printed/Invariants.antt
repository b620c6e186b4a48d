use Rattle.std.proofs.Common.{◌≡◌, ◌∷◌, [], take}
use Rattle.keep_local.specs.States.{callers_in}
use Rattle.kv_history.specs.Log.{calls}
use Rattle.mc_text.specs.Commands.{commands_left}
use Rattle.runner_trials.specs.Giving.{HasLeft}
use Rattle.runner_trials.proofs.tests.printed.Given as goal

-- the turns so far have given the commands in front
abbrev pub invariant-loop-turn : goal.invariant-loop-turn
invariant-loop-turn l = record {
  same : l.journal.sections ≡ l.first ∷ l.second ∷ [];
  called : calls l.journal ≡ callers_in (take l.turn-index l.turns);
  firsts : HasLeft l.journal.sections (calls l.journal) 0 (commands_left l.firsts);
  seconds : HasLeft l.journal.sections (calls l.journal) 1 (commands_left l.seconds);
}
