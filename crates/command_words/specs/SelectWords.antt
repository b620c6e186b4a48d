-- What the words of `select` ask for.
use Rattle.std.specs.Prelude.{List, [], ◌∷◌, Option, None, codes, option_map, option_and_then, unwrap_or}
use Rattle.clap.specs.Words.{App, Row, Rule, Text, first_of}
use Rattle.command_words.specs.Commands.{command_of, matched, option_rule, word_rule}
use Rattle.command_words.specs.Asked.{Asked, Select}

-- the command's options, and then the words behind them
abbrev pub select_rules : List Rule
select_rules = option_rule (codes "weights") None ∷ option_rule (codes "keep") None ∷ word_rule (codes "DESCRIPTION") ∷ []

unfoldable pub select_command : App
select_command = command_of (codes "select") select_rules

-- how often a level keeps the lock, where that is not given
abbrev pub default_keep : Text
default_keep = codes "128"

-- what the matches ask for
abbrev pub select_of : List Row → Option Asked
select_of rows =
    option_map (λ description. Select (record {
      weights = first_of (codes "weights") rows;
      keep = unwrap_or (first_of (codes "keep") rows) default_keep;
      description = description;
    })) (first_of (codes "DESCRIPTION") rows)

abbrev pub select_asked : List Text → Option Asked
select_asked words = option_and_then select_of (matched select_command words)
