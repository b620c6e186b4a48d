-- What the words of `drill` ask for.
use Rattle.std.specs.Prelude.{◌^◌, List, [], ◌∷◌, Option, codes, option_map, option_and_then}
use Rattle.byte_text.specs.Numerals.{number_below}
use Rattle.clap.specs.Words.{App, Row, Rule, Text, first_of}
use Rattle.command_words.specs.Commands.{command_of, matched, word_rule}
use Rattle.command_words.specs.Asked.{Asked, Drill}

abbrev pub drill_rules : List Rule
drill_rules = word_rule (codes "N") ∷ []

unfoldable pub drill_command : App
drill_command = command_of (codes "drill") drill_rules

-- what the matches ask for: N is a decimal number below 2^32
abbrev pub drill_of : List Row → Option Asked
drill_of rows = option_map Drill (option_and_then (number_below (2 ^ 32)) (first_of (codes "N") rows))

abbrev pub drill_asked : List Text → Option Asked
drill_asked words = option_and_then drill_of (matched drill_command words)
