use Rattle.cpu_set.proofs.RunLaws.{maximal_runs}
use Rattle.cpu_set.proofs.laws.runs_are_maximal.Goals as goal

pub returns : goal.returns
returns c = λ set ok. maximal_runs set ok
