use Rattle.cpu_set.proofs.SetSteps.{test-ones_between}
use Rattle.cpu_set.proofs.set.ones_between.Goals as goal

pub returns : goal.returns
returns c = λ bit below. test-ones_between c.args.first c.args.last bit c.requires.ends c.requires.within below
