-- The entries of a journal, as they are printed.
use Rattle.kv_history.specs.Log.{Logged}
use Rattle.keep_local.specs.declared.turn.Turn.{Turn}
use Rattle.run_texts.specs.Text.{Told}

-- a turn with the command and the reply of its entry
abbrev pub told_entry : Turn → Logged → Told
told_entry turn entry = record { turn = turn; command = entry.command.spelling; reply = entry.reply }
