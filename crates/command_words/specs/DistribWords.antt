-- What the words of `distrib` ask for.
use Rattle.std.specs.Prelude.{◌^◌, List, [], ◌∷◌, Option, Some, None, codes, option_map, option_and_then}
use Rattle.byte_text.specs.Numerals.{number_below}
use Rattle.clap.specs.Words.{App, Row, Rule, Text, first_of}
use Rattle.command_words.specs.Commands.{command_of, flag_rule, is_given, matched, option_rule, word_rule}
use Rattle.command_words.specs.Asked.{Asked, Distrib, Distribution, Depths, Between, At}

-- the command's options, and then the words behind them
abbrev pub distrib_rules : List Rule
distrib_rules =
    option_rule (codes "from") None ∷ option_rule (codes "to") None ∷ option_rule (codes "at") None
    ∷ flag_rule (codes "single") None ∷ flag_rule (codes "reverse") None ∷ flag_rule (codes "taskset") None
    ∷ word_rule (codes "N") ∷ word_rule (codes "DESCRIPTION") ∷ []

unfoldable pub distrib_command : App
distrib_command = command_of (codes "distrib") distrib_rules

-- `--at` stands for `--from` and `--to`, and not with either
abbrev pub depths_of : Option Text → Option Text → Option Text → Option Depths
depths_of from to None = Some (Between from to)
depths_of None None (Some name) = Some (At name)
depths_of (Some from) to (Some name) = None
depths_of None (Some to) (Some name) = None

-- what the matches ask for: N is a decimal number below 2^32
unfoldable pub distribution_of : List Row → Option Distribution
distribution_of rows =
    option_and_then (λ masks.
    option_and_then (λ depths.
    option_map (λ description. record {
      masks = masks;
      depths = depths;
      single = is_given (codes "single") rows;
      reverse = is_given (codes "reverse") rows;
      taskset = is_given (codes "taskset") rows;
      description = description;
    })
    (first_of (codes "DESCRIPTION") rows))
    (depths_of (first_of (codes "from") rows) (first_of (codes "to") rows) (first_of (codes "at") rows)))
    (option_and_then (number_below (2 ^ 32)) (first_of (codes "N") rows))

abbrev pub distrib_of : List Row → Option Asked
distrib_of rows = option_map Distrib (distribution_of rows)

abbrev pub distrib_asked : List Text → Option Asked
distrib_asked words = option_and_then distrib_of (matched distrib_command words)
