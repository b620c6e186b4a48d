use Rattle.std.proofs.Common.{◌∙◌, ap, map, string_bytes, inl, refl}
use Rattle.clap.specs.Words.{is_simple_and_free}
use Rattle.command_words.specs.Commands.{rule_of}
use Rattle.command_words.specs.RunWords.{run_of}
use Rattle.command_words.proofs.Reading.{asked-some, asked-none, asked-refused}
use Rattle.command_words.proofs.Tables.{run_made, run_simple}
use Rattle.command_words.proofs.run_words.read_run.Goals as goal

pub matches-requires : goal.matches-requires
matches-requires c = ap is_simple_and_free (run_made (map rule_of c.arguments.result.now) c.arguments.ensures) ∙ run_simple

pub returns-in-Some-clause-asked : goal.returns-in-Some-clause-asked
returns-in-Some-clause-asked c =
    asked-some run_of _ _ (map string_bytes c.args.words.now) (run_made (map rule_of c.arguments.result.now) c.arguments.ensures)
    _ _ c.in-Ok.ensures.read c.in-Some.ensures

pub returns-in-Ok-clause-refused : goal.returns-in-Ok-clause-refused
returns-in-Ok-clause-refused c =
    inl (
      refl,
      asked-none run_of _ _ (map string_bytes c.args.words.now)
          (run_made (map rule_of c.arguments.result.now) c.arguments.ensures) _ c.in-Ok.ensures.read c.in-None.ensures,
    )

pub returns-clause-refused : goal.returns-clause-refused
returns-clause-refused c =
    asked-refused run_of _ _ (map string_bytes c.args.words.now) (run_made (map rule_of c.arguments.result.now) c.arguments.ensures)
    c.in-Err.fault c.in-Err.ensures.refused
