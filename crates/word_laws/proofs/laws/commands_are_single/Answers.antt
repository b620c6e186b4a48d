use Rattle.word_laws.proofs.Tables.{all_single, all_valued}
use Rattle.word_laws.proofs.laws.commands_are_single.Goals as goal

pub returns-clause-commands : goal.returns-clause-commands
returns-clause-commands c = all_single

pub returns-clause-options : goal.returns-clause-options
returns-clause-options c = all_valued
