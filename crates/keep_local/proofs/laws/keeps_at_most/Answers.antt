use Rattle.keep_local.proofs.Lawful.{keeps_at_most_lem}
use Rattle.keep_local.proofs.laws.keeps_at_most.Goals as goal

pub returns : goal.returns
returns c = keeps_at_most_lem
