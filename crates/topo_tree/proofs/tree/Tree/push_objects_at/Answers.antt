use Rattle.std.proofs.Common.{◌≡◌, ◌<◌, ◌+◌, ◌*◌, ◌/◌, [], ◌∷◌, ◌++◌, length, take, sym, ap, ◌∙◌, arith}
use Rattle.std.proofs.lemmas.List.{append-nil}
use Rattle.std.proofs.lemmas.List.Elements.{All-push, All-same}
use Rattle.std.proofs.lemmas.Nat.{div_below}
use Rattle.std.specs.List.{range_with_len, flat_map}
use Rattle.synth_text.specs.Rules.{arities, product}
use Rattle.topo_tree.specs.Objects.{count_of, IsObject}
use Rattle.topo_tree.specs.Order.{object_at}
use Rattle.topo_tree.specs.Beginnings.{objects_from, objects_at}
use Rattle.topo_tree.proofs.CountLaws.{have_arities, count_some, width_some, product_split, last_count}
use Rattle.topo_tree.proofs.Shown.{found_width, some_width, objects_from-first, objects_from-later, objects_more}
use Rattle.topo_tree.proofs.tree.Tree.push_objects_at.Goals as goal
use Rattle.topo_tree.proofs.tree.Tree.push_objects_at.Goals.{then-position-width-eq0+in_ok-push, else-position-width-eq0}

pub nonzero_div-width : goal.nonzero_div-width
nonzero_div-width c =
    let now = c.args.self.now in
    omega (arith, c.count.ensures.count, count_some c.loop-depth.depth now.levels (have_arities now c.depths-depth-end.ensures.built.sound))

pub nonzero_rem-position : goal.nonzero_rem-position
nonzero_rem-position c =
    let now = c.args.self.now in
    some_width now c.loop-depth.depth c.count-pus.result c.count.result (have_arities now c.depths-depth-end.ensures.built.sound)
    (c.count-pus.ensures.count ∙ ap (count_of now) c.pu_layer.ensures.layer ∙ last_count now.levels) c.count.ensures.count

pub nonzero_div-position : goal.nonzero_div-position
nonzero_div-position c =
    let now = c.args.self.now in
    some_width now c.loop-depth.depth c.count-pus.result c.count.result (have_arities now c.depths-depth-end.ensures.built.sound)
    (c.count-pus.ensures.count ∙ ap (count_of now) c.pu_layer.ensures.layer ∙ last_count now.levels) c.count.ensures.count

pub loop-depth-preserved : goal.loop-depth-preserved
loop-depth-preserved c =
    let now = c.args.self.now in
    let some = have_arities now c.depths-depth-end.ensures.built.sound in
    let pus : c.count-pus.result ≡ product (arities now.levels) =
    c.count-pus.ensures.count ∙ ap (count_of now) c.pu_layer.ensures.layer ∙ last_count now.levels in
    let depth = c.loop-depth.depth in
    let position = c.args.position in
    let width = c.count-pus.result / c.count.result in
    let is = found_width now depth c.count-pus.result c.count.result some pus c.count.ensures.count in
    elim c.if-position-width-eq0.branch [
      | then-position-width-eq0+in_ok-push w ↦
          let found = objects_from-first now position depth width is w.if-position-width-eq0.true in
          let split = ap (λ n. product (take depth (arities now.levels)) * n) is ∙ product_split depth (arities now.levels) in
          let below : position / width < product (take depth (arities now.levels)) =
          div_below position width (product (take depth (arities now.levels))) (omega (arith, is, width_some depth now.levels some))
          (omega (arith, split, c.requires.position)) in
          let within : depth < length now.levels + 1 = omega (arith, c.loop-depth-test.true, c.depths-depth-end.ensures.count) in
          let pushed = ap (λ v. v.items) w.objects-is ∙ w.in_ok-push.ensures.items in
          record {
            order =
                pushed ∙ ap (λ out. out ++ object_at depth (position / width) ∷ []) c.loop-depth.invariant.order
                ∙ objects_more now c.args.objects.now.items position depth (object_at depth (position / width) ∷ []) found;
            objects =
                All-same (IsObject now) _ _ pushed
                (All-push (IsObject now) c.loop-depth.objects.items (object_at depth (position / width)) c.loop-depth.invariant.objects
                (record { layer = within; index = below }));
          }
      | else-position-width-eq0 w ↦
          let found = objects_from-later now position depth width is w.if-position-width-eq0.false in
          record {
            order =
                ap (λ v. v.items) w.objects-is ∙ c.loop-depth.invariant.order
                ∙ sym (append-nil (c.args.objects.now.items ++ flat_map (objects_from now position) (range_with_len 0 depth)))
                ∙ objects_more now c.args.objects.now.items position depth [] found;
            objects = All-same (IsObject now) _ _ (ap (λ v. v.items) w.objects-is) c.loop-depth.invariant.objects;
          }
    ]

pub returns-clause-order : goal.returns-clause-order
unfolding objects_at
returns-clause-order c =
    let now = c.args.self.now in
    let all : c.loop-depth.depth ≡ length now.levels + 1 = omega (arith, c.depths-depth-end.ensures.count) in
    c.loop-depth.invariant.order ∙ ap (λ count. c.args.objects.now.items
    ++ flat_map (objects_from now c.args.position) (range_with_len 0 count)) all
