-- Commands in which no use of an argument takes two words, and what words come to that go to their positionals.
use Rattle.std.specs.Prelude.{◌≡◌, ◌≢◌, ℕ, ◌+◌, ◌-◌, ◌==◌, ◌&&◌, ◌||◌, Bool, true, false, not, nat_lt, if◌then◌else◌}
use Rattle.std.specs.Prelude.{List, [], ◌∷◌, take, drop, is_some, unwrap_or, fold}
use Rattle.std.specs.List.{filter, list_all}
use Rattle.std.specs.Str.{bytes_eq}
use Rattle.clap.specs.Lexer.{usize_max}
use Rattle.clap.specs.Simple.{App, built}
use Rattle.clap.specs.Walk.{Row, Rule, Text, action_of, is_append, is_empty, takes_several, used, with_default}
use Rattle.clap.specs.declared.builder.action.ArgAction.{ArgAction}
use Rattle.clap.specs.declared.builder.action.ArgAction.TheVariants.{Set}
use Rattle.command_words.specs.Commands.{taken_by}

-- ---- words

-- the word `--`
abbrev pub dashes : Text
dashes = 45 ∷ 45 ∷ []

-- the word doesn't begin with `-`
abbrev pub IsPlain : Text → Type 0
IsPlain [] = Unit {0}
IsPlain (byte ∷ bytes) = byte ≢ 45

-- ---- commands

-- a use of the argument takes one word at most, and the words behind it are read as those before it
abbrev pub takes_one : Rule → Bool
takes_one rule = not (takes_several rule) && not rule.trailing_var_arg

-- no two arguments have one id
abbrev pub have_own_ids : List Rule → Bool
have_own_ids [] = true
have_own_ids (rule ∷ rules) = list_all (λ other. not (bytes_eq rule.id other.id)) rules && have_own_ids rules

-- the arguments that have a place among the words
abbrev pub positionals : List Rule → List Rule
positionals rules = filter (λ rule. is_some rule.index) rules

abbrev pub is_set : ArgAction → Bool
is_set Set = true
is_set _ = false

-- the argument takes any number of words, one behind the other
abbrev pub takes_all : Rule → Bool
takes_all rule = is_append (action_of rule)

-- a word is kept as it is, in place of the one before it or behind it; and without a word there is none
abbrev pub keeps_words : Rule → Bool
keeps_words rule = (is_set (action_of rule) || takes_all rule) && is_empty rule.defaults

-- the places are counted from this number on
abbrev pub are_counted : ℕ → List Rule → Bool
are_counted place [] = true
are_counted place (rule ∷ rules) = (unwrap_or rule.index 0 == place) && (nat_lt place usize_max && are_counted (place + 1) rules)

-- the arguments of a command, with what `clap` adds to its table
abbrev pub rules_of : App → List Rule
rules_of command = (built command).top.rules

-- The command has no subcommand, no use of an argument takes two words, no two arguments have one id, the first word is the
-- command's name, and the positionals are counted from 1.
abbrev pub is_single : App → Bool
is_single command =
    is_empty (built command).subs && (not command.top.no_binary_name && (list_all takes_one (rules_of command)
    && (have_own_ids (rules_of command) && (list_all keeps_words (positionals (rules_of command))
    && are_counted 1 (positionals (rules_of command))))))

-- ---- words that go to positionals

-- The matches behind words that go to positionals in turn: each takes one, and one that takes any number takes all that are left.
abbrev pub given : List Rule → List Text → List Row → List Row
given rules [] rows = rows
given [] (word ∷ words) rows = rows
given (rule ∷ rules) (word ∷ words) rows =
    if takes_all rule then given (rule ∷ rules) words (used rule (word ∷ []) rows) else given rules words (used rule (word ∷ []) rows)

-- the words of the first positional, and those left for the others
abbrev pub own_words : Rule → List Text → List Text
own_words rule words = if takes_all rule then words else take 1 words

abbrev pub other_words : Rule → List Text → List Text
other_words rule words = if takes_all rule then [] else drop 1 words

-- The words are those of the positionals, in order: each has one, and one that takes any number has all that are left. None is left over.
abbrev pub StandInOrder : List Row → List Rule → List Text → Type 0
StandInOrder rows [] words = words ≡ []
StandInOrder rows (rule ∷ rules) words =
    (taken_by rule.id rows ≡ own_words rule words) × StandInOrder rows rules (other_words rule words)

-- the positionals from a place on
abbrev pub from_place : List Rule → ℕ → List Rule
from_place rules place = drop (place - 1) (positionals rules)

-- arguments that weren't given get their defaults
abbrev pub with_defaults : List Rule → List Row → List Row
with_defaults rules rows = fold with_default rows rules
