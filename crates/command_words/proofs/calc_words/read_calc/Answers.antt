use Rattle.std.proofs.Common.{◌≡◌, ◌∙◌, ap, sym, map, codes, true, string_bytes, inl, inr, option_map}
use Rattle.clap.specs.Words.{App, is_simple_and_free}
use Rattle.command_words.specs.Commands.{rule_of}
use Rattle.command_words.specs.Asked.{Calc}
use Rattle.command_words.specs.CalcWords.{calc_of}
use Rattle.command_words.proofs.Reading.{asked-some, asked-none, asked-refused}
use Rattle.command_words.proofs.Tables.{calc_made, calc_simple}
use Rattle.command_words.proofs.calc_words.read_calc.Goals as goal

pub matches-requires : goal.matches-requires
matches-requires c = ap is_simple_and_free (calc_made (map rule_of c.arguments.result.now) c.arguments.ensures) ∙ calc_simple

pub returns-in-Ok-calculation_of-clause-asked : goal.returns-in-Ok-calculation_of-clause-asked
returns-in-Ok-calculation_of-clause-asked c =
    asked-some calc_of _ _ (map string_bytes c.args.words.now) (calc_made (map rule_of c.arguments.result.now) c.arguments.ensures)
    _ _ c.in-Ok.ensures.read (sym (ap (option_map Calc) c.in-Ok-calculation_of.ensures.asked))

pub returns-in-Ok-clause-refused : goal.returns-in-Ok-clause-refused
returns-in-Ok-clause-refused c =
    elim c.in-Err-calculation_of.ensures.refused [
      | inl usage ↦ inl (
        usage.0,
        asked-none calc_of _ _ (map string_bytes c.args.words.now)
            (calc_made (map rule_of c.arguments.result.now) c.arguments.ensures) _ c.in-Ok.ensures.read
            (sym (ap (option_map Calc) usage.1)),
      )
      | inr memory ↦ inr memory
    ]

pub returns-clause-refused : goal.returns-clause-refused
returns-clause-refused c =
    asked-refused calc_of _ _ (map string_bytes c.args.words.now) (calc_made (map rule_of c.arguments.result.now) c.arguments.ensures)
    c.in-Err.fault c.in-Err.ensures.refused
