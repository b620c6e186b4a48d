use Rattle.std.proofs.Common.{◌≡◌, ℕ, List, Contains, get_or, sym, ◌∙◌, subst}
use Rattle.std.specs.List.Sorted.{IsStrictlyIncreasing}
use Rattle.lock_plan.specs.Shapes.{occupied, node_on}
use Rattle.lock_plan.proofs.Ranks.{occupied_rises, occupied_has, node_is, map_more}
use Rattle.lock_plan.proofs.nodes.nodes.Goals as goal

pub rank-requires-clause-rising : goal.rank-requires-clause-rising
rank-requires-clause-rising c =
    subst IsStrictlyIncreasing (sym (c.deref.ensures.value ∙ c.in_ok-objects.ensures))
    (occupied_rises c.args.tree.now c.args.depth c.args.pus.now)

pub rank-requires-clause-has : goal.rank-requires-clause-has
rank-requires-clause-has c =
    subst (λ (xs : List ℕ). Contains xs c.over.result) (sym (c.deref.ensures.value ∙ c.in_ok-objects.ensures))
    (subst (Contains (occupied c.args.tree.now c.args.pus.now c.args.depth)) (sym c.over.ensures.object)
    (occupied_has c.args.tree.now c.args.depth c.args.pus.now c.loop-pu.pu-index c.requires.built.sound c.requires.pus c.loop-pu-test.true))

pub loop-pu-preserved : goal.loop-pu-preserved
loop-pu-preserved c =
    let described = c.args.tree.now in
    let depth = c.args.depth in
    let pus = c.args.pus.now in
    let pu = get_or pus c.loop-pu.pu-index 0 in
    let node : c.rank.result ≡ node_on described pus depth pu =
    c.rank.ensures
    ∙ node_is described depth pus c.deref.result.now c.over.result pu (c.deref.ensures.value ∙ c.in_ok-objects.ensures)
    c.over.ensures.object in
    map_more (node_on described pus depth) pus c.loop-pu.pu-index c.loop-pu.nodes.items c.push.new.self.items c.rank.result
    c.loop-pu-test.true c.loop-pu.invariant node c.in_ok-push.ensures.items
