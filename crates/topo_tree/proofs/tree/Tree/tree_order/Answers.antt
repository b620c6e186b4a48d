use Rattle.std.proofs.Common.{◌≡◌, ◌++◌, sym, ap, ◌∙◌, arith}
use Rattle.std.specs.List.{range_with_len, flat_map}
use Rattle.std.proofs.lemmas.List.Elements.{All-nil, All-same}
use Rattle.synth_text.specs.Rules.{arities, product}
use Rattle.topo_tree.specs.Objects.{count_of, IsObject}
use Rattle.topo_tree.specs.Beginnings.{objects_at}
use Rattle.topo_tree.proofs.CountLaws.{have_arities, last_count}
use Rattle.topo_tree.proofs.Trees.{flat_map-range_more, order-by_position}
use Rattle.topo_tree.proofs.tree.Tree.tree_order.Goals as goal

pub loop-position-init : goal.loop-position-init
loop-position-init c =
    record {
      order = c.new-objects.ensures.items;
      objects =
          All-same (IsObject c.args.self.now) _ _ c.new-objects.ensures.items (All-nil (IsObject c.args.self.now));
    }

pub loop-position-preserved : goal.loop-position-preserved
loop-position-preserved c =
    let now = c.args.self.now in
    record {
      order =
          c.in_ok-push_objects_at.ensures.order ∙ ap (λ out. out ++ objects_at now c.loop-position.position) c.loop-position.invariant.order
          ∙ sym (flat_map-range_more (objects_at now) c.loop-position.position);
      objects = c.in_ok-push_objects_at.ensures.objects;
    }

pub returns-clause-order : goal.returns-clause-order
returns-clause-order c =
    let now = c.args.self.now in
    let pus : c.count-position-end.result ≡ product (arities now.levels) =
    c.count-position-end.ensures.count ∙ ap (count_of now) c.pu_layer.ensures.layer ∙ last_count now.levels in
    let all : c.loop-position.position ≡ product (arities now.levels) = omega (arith, pus) in
    c.loop-position.invariant.order ∙ ap (λ count. flat_map (objects_at now) (range_with_len 0 count)) all
    ∙ sym (order-by_position now (have_arities now c.pu_layer.ensures.built.sound))
