use Rattle.std.proofs.Common.{◌≡◌, length, get_or, sym, ap, ◌∙◌, subst, arith}
use Rattle.synth_text.specs.Rules.{node_count}
use Rattle.topo_tree.specs.Objects.{count_of, IsLayer}
use Rattle.topo_tree.proofs.CountLaws.{few_objects, few_nodes}
use Rattle.topo_tree.proofs.Lookups.{numbered, length-depth_counts, depth_counts-at, length-node_numbers}
use Rattle.topo_tree.proofs.tree.Tree.count.Goals as goal

pub index-requires : goal.index-requires
index-requires c =
    let now = c.args.self.now in
    let here = numbered c.self.inside now c.self.invariant c.self.view_is in
    omega (arith, subst (IsLayer now) c.in-Depth.is c.requires, ap length here.counts, length-depth_counts now.levels)

pub overflow_cast-result : goal.overflow_cast-result
overflow_cast-result c =
    let now = c.args.self.now in
    let here = numbered c.self.inside now c.self.invariant c.self.view_is in
    omega (arith, ap length here.nodes, length-node_numbers now, few_nodes now here.built.sound)

pub returns-in-Depth-clause-count : goal.returns-in-Depth-clause-count
returns-in-Depth-clause-count c =
    let now = c.args.self.now in
    let depth = c.in-Depth.depth in
    let here = numbered c.self.inside now c.self.invariant c.self.view_is in
    c.index.ensures ∙ ap (λ counts. get_or counts depth c.index.result.now) here.counts
    ∙ depth_counts-at now.levels depth c.index.result.now (subst (IsLayer now) c.in-Depth.is c.requires)
    ∙ ap (count_of now) (sym c.in-Depth.is)

pub returns-in-Memory-clause-count : goal.returns-in-Memory-clause-count
returns-in-Memory-clause-count c =
    let now = c.args.self.now in
    let here = numbered c.self.inside now c.self.invariant c.self.view_is in
    let counted : c.len.result ≡ node_count now.levels now.memory =
    omega (arith, ap length here.nodes, length-node_numbers now) in
    counted ∙ ap (count_of now) (sym c.in-Memory.is)

pub returns-in-Depth-clause-few : goal.returns-in-Depth-clause-few
returns-in-Depth-clause-few c =
    let now = c.args.self.now in
    let depth = c.in-Depth.depth in
    let here = numbered c.self.inside now c.self.invariant c.self.view_is in
    let counted = c.index.ensures ∙ ap (λ counts. get_or counts depth c.index.result.now) here.counts
    ∙ depth_counts-at now.levels depth c.index.result.now (subst (IsLayer now) c.in-Depth.is c.requires) in
    omega (arith, counted, few_objects now depth here.built.sound)

pub returns-in-Memory-clause-few : goal.returns-in-Memory-clause-few
returns-in-Memory-clause-few c =
    let now = c.args.self.now in
    let here = numbered c.self.inside now c.self.invariant c.self.view_is in
    omega (arith, ap length here.nodes, length-node_numbers now, few_nodes now here.built.sound)
