use Rattle.cpu_set.proofs.SetSteps.{set_of_words-or}
use Rattle.cpu_set.proofs.set.CpuSet.add_word.Goals as goal

pub returns : goal.returns
returns c = set_of_words-or c.self.inside.words c.args.self.now c.args.place c.args.word c.self.view_is c.self.invariant c.requires
