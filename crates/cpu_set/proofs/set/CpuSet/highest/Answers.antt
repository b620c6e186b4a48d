use Rattle.std.proofs.Common.{arith}
use Rattle.cpu_set.proofs.SetSteps.{IsSet-view}
use Rattle.cpu_set.proofs.Searches.{none_from_end, none_from_word, highest_word, highest_nowhere}
use Rattle.cpu_set.proofs.set.CpuSet.highest.Goals as goal

pub loop-place-init : goal.loop-place-init
loop-place-init c = none_from_end c.self.inside.words

pub loop-place-preserved : goal.loop-place-preserved
loop-place-preserved c =
    none_from_word c.self.inside.words c.args.self.now c.self.view_is c.self.invariant _ c.loop-place.place
    (omega arith) c.loop-place.invariant c.if-word-ne0.false

pub returns-then-word-ne0-clause-number : goal.returns-then-word-ne0-clause-number
returns-then-word-ne0-clause-number c =
    highest_word c.self.inside.words c.args.self.now c.self.view_is c.self.invariant _ c.loop-place.place (omega arith)
    (omega arith) c.loop-place.invariant c.if-word-ne0.true

pub returns-clause-number : goal.returns-clause-number
returns-clause-number c =
    highest_nowhere c.self.inside.words c.args.self.now c.self.view_is c.self.invariant c.loop-place.place c.loop-place-test.false
    c.loop-place.invariant

pub returns-then-word-ne0-clause-set : goal.returns-then-word-ne0-clause-set
returns-then-word-ne0-clause-set c = IsSet-view c.self.inside.words c.args.self.now c.self.view_is

pub returns-clause-set : goal.returns-clause-set
returns-clause-set c = IsSet-view c.self.inside.words c.args.self.now c.self.view_is
