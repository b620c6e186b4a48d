use Rattle.synth_text.specs.Names.{kind_named}
use Rattle.synth_text.proofs.name.named_kind.Goals as goal

pub returns : goal.returns
unfolding kind_named
returns c = c.entry_named.ensures
