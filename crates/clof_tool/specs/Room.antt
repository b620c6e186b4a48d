-- The room that a text needs.
use Rattle.std.specs.Prelude.{◌≤◌, ℕ, List, length}
use Rattle.std.specs.declared.string.String.{String}
use Rattle.std.specs.declared.alloc.Global.{Global}
use Rattle.command_words.specs.Asked.{Asked}
use Rattle.command_words.specs.Words.{Says}
use Rattle.clof_answers.specs.Outcome.{IsAnswer}

-- there is room for every text that answers words and an input
abbrev pub HasRoom : List (String Global) → List ℕ → ℕ → Type 0
HasRoom words input room = (asked : Asked) (text : List ℕ) → Says words asked → IsAnswer asked input text → length text ≤ room
