-- What the words of `check` ask for.
use Rattle.std.specs.Prelude.{◌^◌, ◌&&◌, Bool, nat_lt, length, if◌then◌else◌}
use Rattle.std.specs.Prelude.{List, [], ◌∷◌, Option, Some, None, codes, option_and_then, unwrap_or}
use Rattle.clap.specs.Words.{App, Row, Rule, Text, first_of}
use Rattle.command_words.specs.Commands.{command_of, matched, option_rule, optional_rule}
use Rattle.command_words.specs.Asked.{Asked, Check, Checking}
use Rattle.command_words.specs.RunWords.{default_levels, default_keep, default_description}

-- the command's options, and then the words behind them
abbrev pub check_rules : List Rule
check_rules = option_rule (codes "levels") None ∷ option_rule (codes "keep") None ∷ optional_rule (codes "DESCRIPTION") ∷ []

unfoldable pub check_command : App
check_command = command_of (codes "check") check_rules

-- the run of some matches: what isn't given is as `run` has it
abbrev pub checking_of : List Row → Checking
checking_of rows = record {
  levels = unwrap_or (first_of (codes "levels") rows) default_levels;
  keep = unwrap_or (first_of (codes "keep") rows) default_keep;
  description = unwrap_or (first_of (codes "DESCRIPTION") rows) default_description;
}

-- the texts of the lock have fewer than 2^32 bytes each
abbrev pub is_short : Checking → Bool
is_short asked = nat_lt (length asked.levels) (2 ^ 32) && nat_lt (length asked.keep) (2 ^ 32)

-- what the matches ask for
abbrev pub check_of : List Row → Option Asked
check_of rows = if is_short (checking_of rows) then Some (Check (checking_of rows)) else None

abbrev pub check_asked : List Text → Option Asked
check_asked words = option_and_then check_of (matched check_command words)
