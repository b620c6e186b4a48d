-- The laws of plain words, of values behind `=`, and of the word `--`.
use Rattle.std.specs.Prelude.{◌≡◌, ◌≢◌, ◌&&◌, Bool, true, false, not, List, [], ◌∷◌, ◌++◌, Some, codes}
use Rattle.std.specs.List.{AllByRecursion}
use Rattle.std.specs.Option.{option_map_or}
use Rattle.clap.specs.Lexer.{has_byte}
use Rattle.clap.specs.Simple.{App}
use Rattle.clap.specs.Walk.{Row, Text, Walk, arg_by_long, is_empty, nothing_held, settled, takes_values, walk}
use Rattle.command_words.specs.CalcWords.{calc_command}
use Rattle.command_words.specs.CheckWords.{check_command}
use Rattle.command_words.specs.Commands.{matched}
use Rattle.command_words.specs.DistribWords.{distrib_command}
use Rattle.command_words.specs.DrillWords.{drill_command}
use Rattle.command_words.specs.RunWords.{run_command}
use Rattle.command_words.specs.SelectWords.{select_command}
use Rattle.command_words.specs.SetWords.{set_command}
use Rattle.command_words.specs.TopoWords.{topo_command}
use Rattle.word_laws.specs.Positionals.{
  IsPlain,
  dashes,
  is_single,
  rules_of,
  positionals,
  from_place,
  given,
  with_defaults,
  StandInOrder,
}

abbrev pub IsSingle : App → Type 0
IsSingle command = is_single command ≡ true

-- the program's commands
abbrev pub commands : List App
commands =
    set_command ∷ topo_command ∷ calc_command ∷ distrib_command ∷ select_command ∷ drill_command ∷ run_command ∷ check_command ∷ []

abbrev pub CommandsAreSingle : Type 0
CommandsAreSingle = AllByRecursion IsSingle commands

-- ---- plain words

-- where a command takes words that don't begin with `-`, they are its positionals in order
abbrev pub PlainWordsStandInOrder : Type 0
PlainWordsStandInOrder = (command : App) (name : Text) (words : List Text) (rows : List Row) → IsSingle command
    → AllByRecursion IsPlain words → matched command (name ∷ words) ≡ Some rows → StandInOrder rows (positionals (rules_of command)) words

-- ---- values behind `=`

-- no word is `--`
abbrev pub LackDashes : List Text → Type 0
LackDashes words = AllByRecursion (λ word. word ≢ dashes) words

-- an option of the command that takes a value has this long name, which has no `=` (61)
abbrev pub names_value : App → Text → Bool
names_value command long =
    option_map_or takes_values (arg_by_long (rules_of command) long) false && (not (is_empty long) && not (has_byte 61 long))

-- the options of the program's commands that take a value
abbrev pub options : List (App × Text)
options =
    (calc_command, codes "intersect") ∷ (calc_command, codes "number-of") ∷ (calc_command, codes "hierarchical")
    ∷ (calc_command, codes "sep") ∷ (distrib_command, codes "from") ∷ (distrib_command, codes "to") ∷ (distrib_command, codes "at")
    ∷ (select_command, codes "weights") ∷ (select_command, codes "keep") ∷ (run_command, codes "levels") ∷ (run_command, codes "locks")
    ∷ (run_command, codes "keep") ∷ (run_command, codes "threads") ∷ (run_command, codes "quantum") ∷ (check_command, codes "levels")
    ∷ (check_command, codes "keep") ∷ []

abbrev pub OptionsTakeValues : Type 0
OptionsTakeValues = AllByRecursion (λ (option : App × Text). names_value option.0 option.1 ≡ true) options

-- `--name` and `--name=value`
abbrev pub long_word : Text → Text
long_word long = 45 ∷ 45 ∷ long

abbrev pub attached : Text → Text → Text
attached long value = 45 ∷ 45 ∷ (long ++ 61 ∷ value)

-- before the first `--`, and wherever it stands there, a value behind `=` gives the same as the same value as the next word
abbrev pub ValuesStandBehindEquals : Type 0
ValuesStandBehindEquals = (command : App) (name long value : Text) (before behind : List Text) → IsSingle command
    → names_value command long ≡ true → IsPlain value → LackDashes before
    → matched command (name ∷ (before ++ attached long value ∷ behind))
    ≡ matched command (name ∷ (before ++ long_word long ∷ value ∷ behind))

-- ---- words behind `--`

-- where the words before the first `--` have come to
abbrev pub reached : App → List Text → Walk
reached command before = walk (rules_of command) [] nothing_held before

-- Where a command takes words, those behind the first `--` go to the positionals in turn, from the one on whose turn it is there,
-- whatever they begin with.
abbrev pub WordsBehindDashesGoInTurn : Type 0
WordsBehindDashesGoInTurn = (command : App) (name : Text) (before behind : List Text) (rows : List Row) → IsSingle command
    → LackDashes before → matched command (name ∷ (before ++ dashes ∷ behind)) ≡ Some rows
    → rows ≡ with_defaults (rules_of command) (given (from_place (rules_of command) (reached command before).position) behind
    (settled (rules_of command) (reached command before).held).rows)

-- So they are its positionals in order, behind the words that positionals have before the `--`, which don't depend on those behind.
abbrev pub WordsBehindDashesStandInOrder : Type 0
WordsBehindDashesStandInOrder = (command : App) (name : Text) (before : List Text) → IsSingle command → LackDashes before
    → (ahead : List Text) × ((behind : List Text) (rows : List Row) → matched command (name ∷ (before ++ dashes ∷ behind)) ≡ Some rows
    → StandInOrder rows (positionals (rules_of command)) (ahead ++ behind))

-- where the words before it are plain, these are they
abbrev pub WordsBehindDashesJoinPlain : Type 0
WordsBehindDashesJoinPlain = (command : App) (name : Text) (before behind : List Text) (rows : List Row) → IsSingle command
    → AllByRecursion IsPlain before → matched command (name ∷ (before ++ dashes ∷ behind)) ≡ Some rows
    → StandInOrder rows (positionals (rules_of command)) (before ++ behind)
