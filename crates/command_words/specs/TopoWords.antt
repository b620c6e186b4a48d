-- What the words of `topo` ask for.
use Rattle.std.specs.Prelude.{List, [], ◌∷◌, Option, None, codes, option_map, option_and_then}
use Rattle.clap.specs.Words.{App, Row, Rule, Text, first_of}
use Rattle.command_words.specs.Commands.{command_of, flag_rule, is_given, matched, word_rule}
use Rattle.command_words.specs.Asked.{Asked, Topo}

abbrev pub topo_rules : List Rule
topo_rules = flag_rule (codes "export") None ∷ word_rule (codes "DESCRIPTION") ∷ []

unfoldable pub topo_command : App
topo_command = command_of (codes "topo") topo_rules

-- what the matches ask for
abbrev pub topo_of : List Row → Option Asked
topo_of rows = option_map (Topo (is_given (codes "export") rows)) (first_of (codes "DESCRIPTION") rows)

abbrev pub topo_asked : List Text → Option Asked
topo_asked words = option_and_then topo_of (matched topo_command words)
