use Rattle.synth_spelling.proofs.WholeTexts.{described_spelled, described_read}
use Rattle.synth_spelling.proofs.laws.descriptions_are_spelled.Goals as goal

pub returns : goal.returns
returns c = λ text described. (described_spelled text described, described_read text described)
