use Rattle.synth_text.proofs.CanonicalRules.{canonical_describes}
use Rattle.synth_text.proofs.laws.canonical_text_describes.Goals as goal

pub returns : goal.returns
returns c = canonical_describes
