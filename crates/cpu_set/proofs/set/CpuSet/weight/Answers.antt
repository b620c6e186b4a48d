use Rattle.std.proofs.Common.{◌∙◌, sym, arith}
use Rattle.cpu_set.proofs.SetSteps.{IsSet-view}
use Rattle.cpu_set.proofs.Weights.{count_below-none, count_below-more, count_below-all, count_up_to}
use Rattle.cpu_set.proofs.set.CpuSet.weight.Goals as goal

pub loop-word-init : goal.loop-word-init
loop-word-init c = sym (count_below-none c.self.inside.words)

pub loop-word-preserved : goal.loop-word-preserved
loop-word-preserved c =
    omega (arith, c.loop-word.invariant, count_below-more c.self.inside.words c.loop-word.word-index c.self.invariant c.loop-word-test.true)

pub overflow_add-count : goal.overflow_add-count
overflow_add-count c =
    omega (
      arith,
      count_up_to c.self.inside.words c.loop-word.word-index c.loop-word.count c.self.invariant c.loop-word-test.true
          c.loop-word.invariant,
    )

pub returns-clause-count : goal.returns-clause-count
returns-clause-count c =
    c.loop-word.invariant ∙ count_below-all c.self.inside.words c.args.self.now c.loop-word.word-index c.self.view_is (omega arith)

pub returns-clause-set : goal.returns-clause-set
returns-clause-set c = IsSet-view c.self.inside.words c.args.self.now c.self.view_is
