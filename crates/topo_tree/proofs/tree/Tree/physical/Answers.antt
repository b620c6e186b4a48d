use Rattle.std.proofs.Common.{◌≡◌, ◌<◌, cond, length, take, slice_index, sym, ap, ◌∙◌, subst, arith}
use Rattle.std.proofs.lemmas.Bool.{eq-eqb}
use Rattle.std.proofs.lemmas.List.{get_or_read}
use Rattle.synth_text.specs.Rules.{arities, product}
use Rattle.topo_tree.specs.Objects.{count_of}
use Rattle.topo_tree.specs.Building.{pu_numbers}
use Rattle.topo_tree.specs.Coverage.{physical_of}
use Rattle.topo_tree.proofs.CountLaws.{last_count}
use Rattle.topo_tree.proofs.Lookups.{numbered, length-pu_numbers, length-node_numbers}
use Rattle.topo_tree.proofs.tree.Tree.physical.Goals as goal

pub index-requires : goal.index-requires
index-requires c =
    let now = c.args.self.now in
    let index = c.args.object.index in
    let here = numbered c.self.inside now c.self.invariant c.self.view_is in
    let below = subst (λ layer. index < count_of now layer) c.in-Depth.is c.requires.index in
    let last : c.in-Depth.depth ≡ length now.levels =
    c.if-depth-as_slice.true ∙ ap length c.as_slice.ensures ∙ ap (λ d. length d.levels) c.self.view_is in
    omega (
      arith,
      below,
      ap (λ depth. product (take depth (arities now.levels))) last,
      last_count now.levels,
      ap length here.numbers,
      length-pu_numbers now,
    )

pub index-requires-in-Memory : goal.index-requires-in-Memory
index-requires-in-Memory c =
    let now = c.args.self.now in
    let index = c.args.object.index in
    let here = numbered c.self.inside now c.self.invariant c.self.view_is in
    let below = subst (λ layer. index < count_of now layer) c.in-Memory.is c.requires.index in
    omega (arith, below, ap length here.nodes, length-node_numbers now)

pub returns-in-Depth : goal.returns-in-Depth
returns-in-Depth c =
    let now = c.args.self.now in
    let index = c.args.object.index in
    let depth = c.in-Depth.depth in
    let here = numbered c.self.inside now c.self.invariant c.self.view_is in
    let below = subst (λ layer. index < count_of now layer) c.in-Depth.is c.requires.index in
    let last : depth ≡ length now.levels =
    c.if-depth-as_slice.true ∙ ap length c.as_slice.ensures ∙ ap (λ d. length d.levels) c.self.view_is in
    let within : index < length c.self.inside.numbers.items =
    omega (
      arith,
      below,
      ap (λ d. product (take d (arities now.levels))) last,
      last_count now.levels,
      ap length here.numbers,
      length-pu_numbers now,
    ) in
    get_or_read c.self.inside.numbers.items index c.index.result.now within c.index.ensures 0
    ∙ ap (λ numbers. slice_index numbers index) here.numbers
    ∙ sym (ap (λ b. cond b (slice_index (pu_numbers now) index) index) (eq-eqb depth (length now.levels) last))
    ∙ ap (λ layer. physical_of now layer index) (sym c.in-Depth.is)

pub returns-in-Memory : goal.returns-in-Memory
returns-in-Memory c =
    let now = c.args.self.now in
    let index = c.args.object.index in
    let here = numbered c.self.inside now c.self.invariant c.self.view_is in
    let below = subst (λ layer. index < count_of now layer) c.in-Memory.is c.requires.index in
    let within : index < length c.self.inside.nodes.items = omega (arith, below, ap length here.nodes, length-node_numbers now) in
    get_or_read c.self.inside.nodes.items index c.index-in-Memory.result.now within c.index-in-Memory.ensures 0
    ∙ ap (λ numbers. slice_index numbers index) here.nodes
    ∙ ap (λ layer. physical_of now layer index) (sym c.in-Memory.is)
