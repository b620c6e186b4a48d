use Rattle.std.proofs.Common.{ℕ, List, map, ap, ◌∙◌, subst, eqb, IsPermutation}
use Rattle.std.proofs.lemmas.List.{take_all}
use Rattle.std.proofs.lemmas.List.Filters.{dedup_is}
use Rattle.topo_tree.specs.Coverage.{object_over}
use Rattle.lock_plan.proofs.Ranks.{sorted_is}
use Rattle.lock_plan.proofs.nodes.occupied.Goals as goal

pub returns : goal.returns
returns c =
    let described = c.args.tree.now in
    let pus = c.args.pus.now in
    let sorted = c.sort_unstable.new.self.items in
    let objects = c.loop-pu.invariant ∙ ap (λ (xs : List ℕ). map (λ pu. object_over described c.args.depth pu) xs)
    (take_all c.loop-pu.pu-index pus c.loop-pu-test.false) in
    let moved = subst (λ (xs : List ℕ). IsPermutation xs sorted) objects c.sort_unstable.ensures.permutation in
    dedup_is eqb sorted c.dedup.new.self.items c.dedup.ensures.filtered
    ∙ sorted_is described c.args.depth pus sorted c.requires.built.sound c.requires.pus moved c.sort_unstable.ensures.sorted
