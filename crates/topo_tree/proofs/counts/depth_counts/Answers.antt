use Rattle.std.proofs.Common.{◌≡◌, [], ◌∷◌, ◌++◌, ◌+◌, ◌*◌, length, map, take, sym, ap, ◌∙◌, arith}
use Rattle.std.proofs.lemmas.List.FromFn.{map-range_with_len_more}
use Rattle.std.specs.List.{range_with_len}
use Rattle.synth_text.specs.Rules.{arities, product}
use Rattle.topo_tree.specs.TableLists.{depth_counts}
use Rattle.topo_tree.proofs.CountLaws.{count_next, count_within}
use Rattle.topo_tree.proofs.counts.depth_counts.Goals as goal

pub overflow_mul-count : goal.overflow_mul-count
overflow_mul-count c =
    let place = c.loop-level.level-index in
    let next = ap (λ count. count * c.level-item.result.arity) c.loop-level.invariant.count
    ∙ sym (count_next c.args.levels.now place c.level-item.result c.loop-level-test.true c.level-item.is) in
    omega (arith, next, count_within (place + 1) c.args.levels.now c.requires.some_each, c.requires.pus)

pub loop-level-preserved : goal.loop-level-preserved
loop-level-preserved c =
    let levels = c.args.levels.now in
    let place = c.loop-level.level-index in
    let next = ap (λ count. count * c.level-item.result.arity) c.loop-level.invariant.count
    ∙ sym (count_next levels place c.level-item.result c.loop-level-test.true c.level-item.is) in
    record {
      count = next;
      counts =
          c.in_ok-push-2.ensures.items
          ∙ ap (λ counts. counts ++ c.loop-level.count * c.level-item.result.arity ∷ []) c.loop-level.invariant.counts
          ∙ ap (λ count. map (λ depth. product (take depth (arities levels))) (range_with_len 0 (place + 1)) ++ count ∷ []) next
          ∙ sym (map-range_with_len_more (λ depth. product (take depth (arities levels))) 0 (place + 1) (place + 1) (omega arith));
    }

pub returns : goal.returns
unfolding depth_counts
returns c =
    let levels = c.args.levels.now in
    let all : c.loop-level.level-index ≡ length levels = omega arith in
    c.loop-level.invariant.counts
    ∙ ap (λ count. map (λ depth. product (take depth (arities levels))) (range_with_len 0 (count + 1))) all
