-- What the words of `calc` ask for. The letters are those of `-I`, `-N`, `-H`, `-p` and `-l`.
use Rattle.std.specs.Prelude.{◌^◌, Bool, false, true, List, [], ◌∷◌, length, nat_lt, codes, if◌then◌else◌}
use Rattle.std.specs.Prelude.{Option, Some, None, option_map, option_and_then}
use Rattle.clap.specs.Words.{App, Row, Rule, Text, first_of}
use Rattle.command_words.specs.Commands.{command_of, flag_rule, is_given, matched, option_rule, taken_by, word_rule, words_rule}
use Rattle.command_words.specs.Asked.{Asked, Calc, Calculation, CalcQuestion, TheSet, Intersect, NumberOf, Hierarchical, Largest}

-- the command's options, and then the words behind them
abbrev pub calc_rules : List Rule
calc_rules =
    option_rule (codes "intersect") (Some 73) ∷ option_rule (codes "number-of") (Some 78) ∷ option_rule (codes "hierarchical") (Some 72)
    ∷ flag_rule (codes "largest") None ∷ flag_rule (codes "single") None ∷ flag_rule (codes "physical") (Some 112)
    ∷ flag_rule (codes "logical") (Some 108) ∷ flag_rule (codes "taskset") None ∷ option_rule (codes "sep") None
    ∷ word_rule (codes "DESCRIPTION") ∷ words_rule (codes "LOCATION") ∷ []

unfoldable pub calc_command : App
calc_command = command_of (codes "calc") calc_rules

-- at most one of the four options is given that ask something of the set
abbrev pub question_of : (intersect number_of hierarchical : Option Text) → (largest : Bool) → Option CalcQuestion
question_of None None None false = Some TheSet
question_of (Some name) None None false = Some (Intersect name)
question_of None (Some name) None false = Some (NumberOf name)
question_of None None (Some names) false = Some (Hierarchical names)
question_of None None None true = Some Largest
question_of intersect number_of hierarchical largest = None

abbrev pub question_in : List Row → Option CalcQuestion
question_in rows =
    question_of (first_of (codes "intersect") rows) (first_of (codes "number-of") rows) (first_of (codes "hierarchical") rows)
    (is_given (codes "largest") rows)

-- whether numbers are physical: not both numberings are asked for
abbrev pub physical_of : (physical logical : Bool) → Option Bool
physical_of true true = None
physical_of true false = Some true
physical_of false logical = Some false

-- locations are numbered below 2^32
abbrev pub numbered : List Text → Option (List Text)
numbered locations = if nat_lt (length locations) (2 ^ 32) then Some locations else None

-- what the matches ask for
unfoldable pub calculation_of : List Row → Option Calculation
calculation_of rows =
    option_and_then (λ question.
    option_and_then (λ physical.
    option_and_then (λ description.
    option_map (λ locations. record {
      question = question;
      physical = physical;
      single = is_given (codes "single") rows;
      taskset = is_given (codes "taskset") rows;
      separator = first_of (codes "sep") rows;
      description = description;
      locations = locations;
    })
    (numbered (taken_by (codes "LOCATION") rows)))
    (first_of (codes "DESCRIPTION") rows))
    (physical_of (is_given (codes "physical") rows) (is_given (codes "logical") rows)))
    (question_in rows)

abbrev pub calc_of : List Row → Option Asked
calc_of rows = option_map Calc (calculation_of rows)

abbrev pub calc_asked : List Text → Option Asked
calc_asked words = option_and_then calc_of (matched calc_command words)
