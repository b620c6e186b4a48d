use Rattle.run_texts.proofs.Printed.{one_history_lem}
use Rattle.run_texts.proofs.laws.one_history.Goals as goal

pub returns : goal.returns
returns c = one_history_lem
