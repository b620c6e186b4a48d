use Rattle.std.proofs.Common.{ap, ◌∙◌}
use Rattle.cpu_set.specs.Tests.{meets}
use Rattle.topo_tree.proofs.NumberTests.{meets-numbers}
use Rattle.topo_tree.proofs.tree.Tree.meets.Goals as goal

pub returns : goal.returns
returns c =
    c.some_in.ensures ∙ meets-numbers c.covered.result.now c.args.set.now c.covered.ensures.limit
    ∙ ap (λ own. meets own c.args.set.now) c.covered.ensures.set
