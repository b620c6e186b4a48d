-- What the words of `run` ask for.
use Rattle.std.specs.Prelude.{◌^◌, ◌&&◌, ◌||◌, Bool, true, not, nat_lt, length, if◌then◌else◌, ℕ, is_some}
use Rattle.std.specs.Prelude.{List, [], ◌∷◌, Option, Some, None, codes, option_and_then, option_map, unwrap_or}
use Rattle.std.specs.Option.{option_map_or}
use Rattle.byte_text.specs.Numerals.{number_in}
use Rattle.clap.specs.Words.{App, Row, Rule, Text, first_of}
use Rattle.command_words.specs.Commands.{command_of, flag_rule, is_given, matched, option_rule, optional_rule}
use Rattle.command_words.specs.Asked.{Asked, Run, Running, Sharing}

-- the command's options, and then the words behind them
abbrev pub run_rules : List Rule
run_rules =
    option_rule (codes "levels") None ∷ option_rule (codes "locks") None ∷ option_rule (codes "keep") None
    ∷ flag_rule (codes "walk") None ∷ option_rule (codes "threads") None ∷ option_rule (codes "quantum") None
    ∷ flag_rule (codes "receipts") None
    ∷ optional_rule (codes "DESCRIPTION") ∷ []

unfoldable pub run_command : App
run_command = command_of (codes "run") run_rules

-- the levels of a lock, where none are given: one over the whole machine
abbrev pub default_levels : Text
default_levels = codes "machine"

-- how often a level keeps the lock, where that is not given
abbrev pub default_keep : Text
default_keep = codes "128"

-- the topology of a run that names none: one PU
abbrev pub default_description : Text
default_description = codes "PU:1"

-- how many commands a thread serves of a caller at a time, where that is not given
abbrev pub default_quantum : Text
default_quantum = codes "1"

-- a number of threads and a quantum
abbrev pub sharing_by : Option ℕ → Option ℕ → Option (Option Sharing)
sharing_by threads quantum =
    option_and_then (λ t. option_map (λ q. Some (record { threads = t; quantum = q })) quantum) threads

-- How the callers share threads. Without a number of threads each has one of its own, and then no quantum is given. A number of threads is
-- from 1 to 256, and isn't given with a walk; a quantum is from 1 to 65,535
abbrev pub sharing_of : List Row → Option (Option Sharing)
sharing_of rows = sharing_in (first_of (codes "threads") rows)
  where
    sharing_in : Option Text → Option (Option Sharing)
    sharing_in None = option_map_or (λ _. None) (first_of (codes "quantum") rows) (Some None)
    sharing_in (Some threads) =
        if is_given (codes "walk") rows then None
        else sharing_by (number_in 1 256 threads)
        (number_in 1 65535 (unwrap_or (first_of (codes "quantum") rows) default_quantum))

-- the run of some matches, whose callers share threads in this way
abbrev pub running_of : List Row → Option Sharing → Running
running_of rows sharing = record {
  levels = unwrap_or (first_of (codes "levels") rows) default_levels;
  locks = first_of (codes "locks") rows;
  keep = unwrap_or (first_of (codes "keep") rows) default_keep;
  walk = is_given (codes "walk") rows;
  sharing = sharing;
  receipts = is_given (codes "receipts") rows;
  description = unwrap_or (first_of (codes "DESCRIPTION") rows) default_description;
}

-- the texts of the lock have fewer than 2^32 bytes each
abbrev pub is_short : Running → Bool
is_short asked =
    nat_lt (length asked.levels) (2 ^ 32) && option_map_or (λ text. nat_lt (length text) (2 ^ 32)) asked.locks true
    && nat_lt (length asked.keep) (2 ^ 32)

-- callers who are stepped on one thread, or share threads, keep no receipts
abbrev pub may_keep_receipts : Running → Bool
may_keep_receipts asked = not (asked.receipts && (asked.walk || is_some asked.sharing))

-- a run that may be asked for
abbrev pub run_if_right : Running → Option Asked
run_if_right asked = if is_short asked && may_keep_receipts asked then Some (Run asked) else None

-- what the matches ask for
abbrev pub run_of : List Row → Option Asked
run_of rows = option_and_then (λ sharing. run_if_right (running_of rows sharing)) (sharing_of rows)

abbrev pub run_asked : List Text → Option Asked
run_asked words = option_and_then run_of (matched run_command words)
