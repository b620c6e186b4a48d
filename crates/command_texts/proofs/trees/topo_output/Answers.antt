use Rattle.command_texts.proofs.OnTopologies.{err_again, not_refused}
use Rattle.command_texts.proofs.trees.topo_output.Goals as goal

pub returns-clause-refused : goal.returns-clause-refused
returns-clause-refused c status refuses = err_again c.in-Err.status status (c.in-Err.ensures.refused status refuses)

pub returns-in-Ok-text_of-clause-refused : goal.returns-in-Ok-text_of-clause-refused
returns-in-Ok-text_of-clause-refused c status refuses = absurd (not_refused _ status (c.in-Ok.ensures.refused status refuses))
