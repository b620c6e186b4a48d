use Rattle.synth_text.proofs.SoundRules.{arities_some}
use Rattle.synth_text.proofs.reading.read_items.Goals as goal

pub described-requires : goal.described-requires
described-requires c = arities_some c.args.text.now c.args.items.now c.in_ok-parts.parts.items c.in_ok-parts.ensures
