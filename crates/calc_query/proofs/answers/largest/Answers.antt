use Rattle.std.proofs.Common.{◌≡◌, length, take, ap, subst, ◌∙◌, arith}
use Rattle.std.specs.List.{All, filter}
use Rattle.std.proofs.lemmas.List.{take_all}
use Rattle.std.proofs.lemmas.List.Elements.{All-filter, All-same}
use Rattle.topo_tree.specs.declared.layer.Object.{Object}
use Rattle.topo_tree.specs.Objects.{IsObject}
use Rattle.calc_query.specs.Answers.{is_largest, largest}
use Rattle.calc_query.proofs.answers.largest.Goals as goal

pub returns-clause-fit : goal.returns-clause-fit
returns-clause-fit g c =
    let now = c.as_tree-tree.result.now in
    let Fit : Object → Type 0 = λ object. IsObject now object in
    let objects = c.in_ok-tree_order.field-0.items in
    let seen : take c.loop-object.object-index c.deref-object-items.result.now ≡ objects =
    ap (take c.loop-object.object-index) c.deref-object-items.ensures.value
    ∙ take_all c.loop-object.object-index objects (omega (arith, c.loop-object-test.false, ap length c.deref-object-items.ensures.value)) in
    subst (λ described. All (λ object. IsObject described object) c.loop-object.objects.items) c.as_tree-tree.ensures
    (All-same Fit _ _ (c.loop-object.invariant.0 ∙ ap (filter (is_largest now c.args.set.now)) seen)
    (All-filter (is_largest now c.args.set.now) Fit objects c.in_ok-tree_order.ensures.objects))

pub returns-clause-objects : goal.returns-clause-objects
unfolding largest
returns-clause-objects g c =
    let now = c.as_tree-tree.result.now in
    let objects = c.in_ok-tree_order.field-0.items in
    c.loop-object.invariant.0
    ∙ ap (filter (is_largest now c.args.set.now))
    (ap (take c.loop-object.object-index) c.deref-object-items.ensures.value
    ∙ take_all c.loop-object.object-index objects
    (omega (arith, c.loop-object-test.false, ap length c.deref-object-items.ensures.value)) ∙ c.in_ok-tree_order.ensures.order)
    ∙ ap (λ described. largest described c.args.set.now) c.as_tree-tree.ensures

pub is_largest-requires-clause-found : goal.is_largest-requires-clause-found
is_largest-requires-clause-found g c = c.loop-object.invariant.1
