-- The words of a command, as `clap` reads them by the command's arguments.
use Rattle.std.specs.Prelude.{ℕ, Bool, false, true, List, [], ◌∷◌, Option, Some, None, codes, unwrap_or}
use Rattle.std.specs.Option.{option_map_or}
use Rattle.std.specs.Str.{bytes_eq}
use Rattle.clap.specs.declared.builder.action.ArgAction.TheVariants.{Append, SetTrue}
use Rattle.clap.specs.Kinds.{Kinds}
use Rattle.clap.specs.Words.{App, Rule, Row, Text, all_of, fault_of, first_of, matches_of, new_app, new_rule}
use Rattle.command_words.specs.declared.command.Argument.{Argument}
use Rattle.command_words.specs.declared.command.Argument.TheVariants as arguments

-- ---- arguments

-- an argument with its short name, where it has one
abbrev pub with_short : Option ℕ → Rule → Rule
with_short None rule = rule
with_short (Some letter) rule = record rule { short = Some letter }

-- an option with a value, by its long name and its short one
abbrev pub option_rule : Text → Option ℕ → Rule
option_rule name short = with_short short (record (new_rule name) { long = Some name })

-- an option without a value
abbrev pub flag_rule : Text → Option ℕ → Rule
flag_rule name short = with_short short (record (new_rule name) { long = Some name; action = Some SetTrue })

-- a word that isn't an option's, and that has to be there
abbrev pub word_rule : Text → Rule
word_rule name = record (new_rule name) { required = true }

-- a word that isn't an option's, and that may be absent
abbrev pub optional_rule : Text → Rule
optional_rule name = new_rule name

-- any number of words that aren't options'
abbrev pub words_rule : Text → Rule
words_rule name = record (new_rule name) { action = Some Append }

abbrev pub rule_of : Argument → Rule
rule_of (arguments.Valued name short) = option_rule name.now short
rule_of (arguments.Flag name short) = flag_rule name.now short
rule_of (arguments.Word name) = word_rule name.now
rule_of (arguments.Optional name) = optional_rule name.now
rule_of (arguments.Words name) = words_rule name.now

-- the command with such arguments, and `clap`'s own for help
abbrev pub command_of : Text → List Rule → App
command_of name rules = record (new_app name) { top = record (new_app name).top { rules = rules } }

-- ---- matches

-- the matches, where nothing is wrong with the words
abbrev pub if_taken : Kinds → List Row → Option (List Row)
if_taken [] rows = Some rows
if_taken (kind ∷ kinds) rows = None

-- what the words give to the arguments, where the command takes them; the first word is the command's name
unfoldable pub matched : App → List Text → Option (List Row)
matched command words = if_taken (fault_of command words) (matches_of command words)

-- whether an option without a value was given
abbrev pub is_given : Text → List Row → Bool
is_given name rows = option_map_or (λ text. bytes_eq text (codes "true")) (first_of name rows) false

-- the words that an argument took
abbrev pub taken_by : Text → List Row → List Text
taken_by name rows = unwrap_or (all_of name rows) []
