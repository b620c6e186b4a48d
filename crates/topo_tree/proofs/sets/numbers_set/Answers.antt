use Rattle.std.proofs.Common.{◌∷◌, [], get_or, sym, ap, ◌∙◌}
use Rattle.cpu_set.specs.Sets.{union}
use Rattle.topo_tree.proofs.SetSteps.{set_step, empty_set}
use Rattle.topo_tree.proofs.sets.numbers_set.Goals as goal

pub loop-number-init : goal.loop-number-init
loop-number-init c = c.empty-set.ensures ∙ sym empty_set

pub loop-number-preserved : goal.loop-number-preserved
loop-number-preserved c =
    c.with.ensures
    ∙ ap (λ set. union set (get_or c.args.numbers.now c.loop-number.number-index 0 ∷ [])) c.loop-number.invariant
    ∙ set_step c.args.numbers.now c.loop-number.number-index c.loop-number-test.true
