use Rattle.std.proofs.Common.{ap, ◌∙◌}
use Rattle.cpu_set.specs.Tests.{is_inside}
use Rattle.topo_tree.proofs.NumberTests.{inside-numbers}
use Rattle.topo_tree.proofs.tree.Tree.inside.Goals as goal

pub returns : goal.returns
returns c =
    c.all_in.ensures ∙ inside-numbers c.covered.result.now c.args.set.now c.covered.ensures.limit
    ∙ ap (λ own. is_inside own c.args.set.now) c.covered.ensures.set
