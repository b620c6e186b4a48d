-- What callers still have to give.
use Rattle.std.specs.Prelude.{◌≡◌, ℕ, ◌==◌, Bool, true, false, List, [], ◌∷◌, ◌++◌, length, drop, slice_get, Some}
use Rattle.std.specs.List.{count_by}
use Rattle.mc_text.specs.Request.{WholeCommand}
use Rattle.mc_text.specs.Reading.{commands_of}
use Rattle.mc_text.specs.Commands.{commands_left}
use Rattle.mc_text.specs.declared.commands.Commands.{Commands}
use Rattle.kv_history.specs.Log.{Log, IsNext, applied_entry, calls}
use Rattle.run_check.specs.declared.replay.Replay.TheInside.{Inside}

-- these commands of a caller's section stand behind those that its calls gave
pub record HasLeft (sections : List (List ℕ)) (before : List ℕ) (caller : ℕ) (left : List WholeCommand) : Type 0 where
  pub section : List ℕ
  pub place : slice_get sections caller ≡ Some section
  pub left_is : left ≡ drop (count_by (λ other. other == caller) before) (commands_of section)

-- each caller of a journal has these commands left
pub record EachHasLeft (log : Log) (left : List Commands) : Type 0 where
  pub many : length left ≡ length log.sections
  pub each : (caller : ℕ) (commands : Commands) → slice_get left caller ≡ Some commands
      → HasLeft log.sections (calls log) caller (commands_left commands)

abbrev pub log_of : Inside → Log
log_of replay = replay.journal

abbrev pub IsReplay : Inside → Type 0
IsReplay replay = EachHasLeft replay.journal replay.left.items

-- the caller's next command was applied
pub record HasGiven (before after : Log) (caller : ℕ) : Type 0 where
  pub command : WholeCommand
  pub next : IsNext before.sections (calls before) caller command
  pub sections : after.sections ≡ before.sections
  pub entries : after.entries ≡ before.entries ++ applied_entry before.entries caller command ∷ []

-- whether it has one
abbrev pub Gives : Log → Log → ℕ → Bool → Type 0
Gives before after caller true = HasGiven before after caller
Gives before after caller false = (command : WholeCommand) → IsNext before.sections (calls before) caller command → ⊥

-- each caller has given all commands of its section
abbrev pub AllGiven : Log → Type 0
AllGiven log =
    (caller : ℕ) (section : List ℕ) → slice_get log.sections caller ≡ Some section
    → count_by (λ other. other == caller) (calls log) ≡ length (commands_of section)
