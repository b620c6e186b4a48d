-- What the words of `set` ask for.
use Rattle.std.specs.Prelude.{List, [], ◌∷◌, Option, None, codes, option_map, option_and_then}
use Rattle.clap.specs.Words.{App, Row, Rule, Text, first_of}
use Rattle.command_words.specs.Commands.{command_of, flag_rule, is_given, matched, word_rule}
use Rattle.command_words.specs.Asked.{Asked, Set}

abbrev pub set_rules : List Rule
set_rules = flag_rule (codes "list") None ∷ word_rule (codes "TEXT") ∷ []

unfoldable pub set_command : App
set_command = command_of (codes "set") set_rules

-- what the matches ask for
abbrev pub set_of : List Row → Option Asked
set_of rows = option_map (Set (is_given (codes "list") rows)) (first_of (codes "TEXT") rows)

abbrev pub set_asked : List Text → Option Asked
set_asked words = option_and_then set_of (matched set_command words)
