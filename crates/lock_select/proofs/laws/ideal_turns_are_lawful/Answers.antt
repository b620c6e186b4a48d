use Rattle.lock_select.proofs.Lawfulness.{lawful_ideals}
use Rattle.lock_select.proofs.laws.ideal_turns_are_lawful.Goals as goal

pub returns : goal.returns
returns c = lawful_ideals
