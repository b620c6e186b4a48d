-- The keys of a command.
use Rattle.std.specs.Prelude.{ℕ, List}
use Rattle.mc_text.specs.declared.keys.Keys.{Keys}
use Rattle.byte_text.specs.Words.{words_left}

-- the keys that are still to be given, in the order of the line
abbrev pub keys_left : Keys → List (List ℕ)
keys_left keys = words_left keys.words
