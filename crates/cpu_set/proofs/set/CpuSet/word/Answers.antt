use Rattle.cpu_set.proofs.SetSteps.{word_of-view}
use Rattle.cpu_set.proofs.set.CpuSet.word.Goals as goal

pub returns : goal.returns
returns c = word_of-view c.self.inside.words c.args.self.now c.self.view_is c.self.invariant c.args.place c.requires
