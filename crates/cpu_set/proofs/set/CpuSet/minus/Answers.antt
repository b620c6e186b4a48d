use Rattle.cpu_set.proofs.SetSteps.{combined_none, combined_more, minus_words, minus_all, and_not}
use Rattle.cpu_set.proofs.set.CpuSet.minus.Goals as goal

pub words-init : goal.words-init
words-init c = combined_none and_not c.self.inside.words c.other.inside.words c.self.invariant

pub words-preserved : goal.words-preserved
words-preserved c =
    combined_more and_not c.self.inside.words c.other.inside.words c.words.words c.words.place c.words.invariant c.words-test.true

pub invariant_of-result : goal.invariant_of-result
invariant_of-result c =
    minus_words c.self.inside.words c.other.inside.words c.words.words c.args.self.now c.args.other.now c.words.place c.self.invariant
    c.other.invariant c.self.view_is c.other.view_is c.words-test.false c.words.invariant

pub returns : goal.returns
returns c =
    minus_all c.self.inside.words c.other.inside.words c.words.words c.args.self.now c.args.other.now c.words.place c.self.invariant
    c.other.invariant c.self.view_is c.other.view_is c.words-test.false c.words.invariant
