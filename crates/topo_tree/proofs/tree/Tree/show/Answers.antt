use Rattle.std.proofs.Common.{length, take, ap, ◌∙◌, arith}
use Rattle.std.specs.List.{flat_map}
use Rattle.std.proofs.lemmas.List.{take_all}
use Rattle.topo_tree.specs.Lines.{lines_of, topology_text}
use Rattle.topo_tree.proofs.tree.Tree.show.Goals as goal

pub returns : goal.returns
unfolding topology_text
returns c =
    let now = c.args.self.now in
    let objects = c.in_ok-objects.objects.items in
    c.loop-object.invariant
    ∙ ap (flat_map (λ object. lines_of now object.layer object.index))
    (ap (take c.loop-object.object-index) c.deref-object-items.ensures.value
    ∙ take_all c.loop-object.object-index objects
    (omega (arith, c.loop-object-test.false, ap length c.deref-object-items.ensures.value)) ∙ c.in_ok-objects.ensures.order)
