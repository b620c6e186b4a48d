use Rattle.calc_query.proofs.PathLaws.{all_chains}
use Rattle.calc_query.proofs.laws.paths_are_chains.Goals as goal

pub returns : goal.returns
returns c = λ described set asked. all_chains described set asked
