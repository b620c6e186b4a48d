use Rattle.std.proofs.Common.{◌≡◌, ℕ, ◌<◌, [], Some}
use Rattle.std.specs.Prelude.{slice_get}
use Rattle.mc_text.specs.Commands.{commands_left}
use Rattle.mc_text.specs.declared.commands.Commands.{Commands}
use Rattle.run_check.proofs.replay.Replay.has_ended.Given as goal

-- the callers so far have nothing left
abbrev pub invariant-loop-commands : goal.invariant-loop-commands
invariant-loop-commands l =
    (caller : ℕ) (commands : Commands) → caller < l.commands-index → slice_get l.commands-items caller ≡ Some commands
    → commands_left commands ≡ []
