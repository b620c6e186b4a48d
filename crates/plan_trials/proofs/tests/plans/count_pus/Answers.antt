use Rattle.std.proofs.Common.{◌≡◌, ◌-◌, length, arith, ap, ◌∙◌}
use Rattle.synth_text.specs.Rules.{pu_count}
use Rattle.topo_tree.specs.Objects.{count_at}
use Rattle.topo_tree.proofs.CountLaws.{last_count}
use Rattle.plan_trials.proofs.tests.plans.count_pus.Goals as goal

pub returns : goal.returns
returns g c =
    let described = c.as_tree-tree.result.now in
    let last : c.depths.result - 1 ≡ length described.levels = let count = c.depths.ensures.count in omega (arith, count) in
    c.count.ensures.count
    ∙ ap (count_at described) last
    ∙ last_count described.levels
    ∙ ap pu_count c.as_tree-tree.ensures
