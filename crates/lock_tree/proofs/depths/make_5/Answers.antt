use Rattle.lock_tree.proofs.Made.{made_of}
use Rattle.lock_tree.proofs.depths.make_5.Goals as goal

pub returns-in-Ok-clause-made : goal.returns-in-Ok-clause-made
returns-in-Ok-clause-made g c = made_of c.in-Ok.ensures.raised
