use Rattle.synth_text.proofs.SoundRules.{meaning_sound}
use Rattle.synth_text.proofs.laws.described_is_sound.Goals as goal

pub returns : goal.returns
returns c = λ described h. meaning_sound h.0 h.1.items described h.1.said
