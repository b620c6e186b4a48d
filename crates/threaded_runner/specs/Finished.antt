-- What a run leaves whose callers have given all their commands.
use Rattle.std.specs.Prelude.{◌≡◌, ℕ, List, true, length, slice_get, IfSome, Some, None}
use Rattle.mc_text.specs.Reading.{commands_of}
use Rattle.keep_local.specs.declared.turn.Turn.{Turn}
use Rattle.keep_local.specs.Shapes.{top_of}
use Rattle.keep_local.specs.States.{TrailState, callers_in}
use Rattle.keep_local.specs.Turns.{IsLawful, last_turn, turns_of}
use Rattle.kv_history.specs.Log.{Log, NoneVoid, calls, own}

-- each caller has made as many turns as its section has commands
abbrev pub EachMadeAll : List (List ℕ) → List Turn → Type 0
EachMadeAll sections turns =
    (caller : ℕ) (section : List ℕ) → slice_get sections caller ≡ Some section → turns_of caller turns ≡ length (commands_of section)

-- each caller's entries are all commands of its section, in its order
abbrev pub EachGaveAll : Log → Type 0
EachGaveAll log =
    (caller : ℕ) (section : List ℕ) → slice_get log.sections caller ≡ Some section → own log.entries caller ≡ commands_of section

-- All turns are closed and lawful, and stand in memory, and the last one leaves at the top. They are of the callers of the journal's
-- entries, in order, none of which is void; each caller has made a turn for each command of its section, and its entries are these
-- commands
pub record IsFinished (trail : TrailState) (log : Log) : Type 0 where
  pub recorded : trail.recorded ≡ true
  pub closed : trail.current ≡ None
  pub lawful : IsLawful trail.shape trail.closed
  pub ends : IfSome (last_turn trail.closed) (λ t. t.left ≡ top_of trail.shape)
  pub called : calls log ≡ callers_in trail.closed
  pub whole : NoneVoid log.entries
  pub each_made : EachMadeAll log.sections trail.closed
  pub each_gave : EachGaveAll log
