use Rattle.std.proofs.Common.{refl}
use Rattle.calc_query.specs.Selection.{selected}
use Rattle.calc_query.proofs.laws.no_terms_select_nothing.Goals as goal

pub returns : goal.returns
unfolding selected
returns c = λ described numbering. refl
