use Rattle.synth_spelling.proofs.Refusals.{refused_first, first_refused}
use Rattle.synth_spelling.proofs.laws.refusals_are_spelled.Goals as goal

pub returns : goal.returns
returns c = λ text fault. (refused_first text fault, first_refused text fault)
