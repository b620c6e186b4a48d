use Rattle.std.proofs.Common.{sym}
use Rattle.cpu_set.proofs.Searches.{apart_none, apart_more, apart_all, not_apart}
use Rattle.cpu_set.proofs.set.CpuSet.meets.Goals as goal

pub words-init : goal.words-init
words-init c = apart_none c.self.inside.words c.other.inside.words

pub words-preserved : goal.words-preserved
words-preserved c = apart_more c.self.inside.words c.other.inside.words c.words.place c.words.invariant c.if-self-place-ne0.false

pub returns : goal.returns
returns c =
    sym (apart_all c.self.inside.words c.other.inside.words c.args.self.now c.args.other.now c.self.view_is c.other.view_is c.self.invariant
    c.words.place c.words-test.false c.words.invariant)

pub returns-then-self-place-ne0 : goal.returns-then-self-place-ne0
returns-then-self-place-ne0 c =
    sym (not_apart c.self.inside.words c.other.inside.words c.args.self.now c.args.other.now c.self.view_is c.other.view_is c.self.invariant
    c.words.place c.words-test.true c.if-self-place-ne0.true)
