use Rattle.std.proofs.Common.{length, get_or, sym, ap, ◌∙◌, subst, arith}
use Rattle.std.proofs.lemmas.List.{get_or_default}
use Rattle.synth_text.specs.Rules.{arities, product}
use Rattle.topo_tree.specs.Building.{pu_numbers}
use Rattle.topo_tree.specs.TableLists.{depth_sets}
use Rattle.topo_tree.proofs.CountLaws.{HaveArities, have_arities}
use Rattle.topo_tree.proofs.Lookups.{length-pu_numbers, pus_low, pus_numbered}
use Rattle.topo_tree.proofs.topology.Topology.from_tree.Goals as goal

pub depth_sets-requires-clause-some_each : goal.depth_sets-requires-clause-some_each
depth_sets-requires-clause-some_each c =
    let levels = c.as_slice.ensures ∙ ap (λ d. d.levels) c.description.ensures.description in
    subst HaveArities (sym levels) (have_arities c.args.tree c.pus.ensures.built.sound)

pub depth_sets-requires-clause-pus : goal.depth_sets-requires-clause-pus
depth_sets-requires-clause-pus c =
    let levels = c.as_slice.ensures ∙ ap (λ d. d.levels) c.description.ensures.description in
    ap length c.pus.ensures.numbers ∙ length-pu_numbers c.args.tree ∙ ap (λ levels. product (arities levels)) (sym levels)

pub depth_sets-requires-clause-few : goal.depth_sets-requires-clause-few
depth_sets-requires-clause-few c =
    omega (arith, ap length c.pus.ensures.numbers, length-pu_numbers c.args.tree, c.pus.ensures.built.sound.pus)

pub depth_sets-requires-clause-limit : goal.depth_sets-requires-clause-limit
depth_sets-requires-clause-limit c = λ k d within.
    let tree = c.args.tree in
    let same = c.pus.ensures.numbers in
    let low = pus_low tree (pus_numbered tree c.pus.ensures.built) k (omega (arith, within, ap length same)) in
    omega (arith, low, get_or_default c.pus.result.now k d 0 within, ap (λ numbers. get_or numbers k 0) same)

pub invariant_of-result : goal.invariant_of-result
invariant_of-result c =
    let levels = c.as_slice.ensures ∙ ap (λ d. d.levels) c.description.ensures.description in
    c.in_ok-sets.ensures ∙ ap (λ numbers. depth_sets numbers c.as_slice.result.now) c.pus.ensures.numbers
    ∙ ap (depth_sets (pu_numbers c.args.tree)) levels
