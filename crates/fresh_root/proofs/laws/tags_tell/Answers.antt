use Rattle.fresh_root.proofs.Names.{tags_tell_lem}
use Rattle.fresh_root.proofs.laws.tags_tell.Goals as goal

pub returns : goal.returns
returns g c f g' e = tags_tell_lem f g' e
