use Rattle.std.proofs.Common.{◌≡◌, ◌+◌, ◌*◌, length, take, map, sym, ap, ◌∙◌, arith}
use Rattle.std.specs.List.{range_with_len}
use Rattle.synth_text.specs.Rules.{arities, product}
use Rattle.topo_tree.specs.TableLists.{sets_covered, depth_sets}
use Rattle.topo_tree.proofs.CountLaws.{count_next, count_some, count_within}
use Rattle.topo_tree.proofs.Coverings.{mapped_more, divides}
use Rattle.topo_tree.proofs.sets.depth_sets.Goals as goal

pub overflow_mul-count : goal.overflow_mul-count
overflow_mul-count c =
    let place = c.loop-level.level-index in
    let next = ap (λ count. count * c.level-item.result.arity) c.loop-level.invariant.count
    ∙ sym (count_next c.args.levels.now place c.level-item.result c.loop-level-test.true c.level-item.is) in
    omega (arith, next, count_within (place + 1) c.args.levels.now c.requires.some_each)

pub sets_covered-requires-in-loop-level-clause-some : goal.sets_covered-requires-in-loop-level-clause-some
sets_covered-requires-in-loop-level-clause-some c =
    let place = c.loop-level.level-index in
    let next = ap (λ count. count * c.level-item.result.arity) c.loop-level.invariant.count
    ∙ sym (count_next c.args.levels.now place c.level-item.result c.loop-level-test.true c.level-item.is) in
    omega (arith, next, count_some (place + 1) c.args.levels.now c.requires.some_each)

pub sets_covered-requires-in-loop-level-clause-whole : goal.sets_covered-requires-in-loop-level-clause-whole
sets_covered-requires-in-loop-level-clause-whole c =
    let place = c.loop-level.level-index in
    let next = ap (λ count. count * c.level-item.result.arity) c.loop-level.invariant.count
    ∙ sym (count_next c.args.levels.now place c.level-item.result c.loop-level-test.true c.level-item.is) in
    divides c.args.levels.now (place + 1) (length c.args.numbers.now)
    (c.loop-level.count * c.level-item.result.arity) c.requires.some_each c.requires.pus next

pub loop-level-preserved : goal.loop-level-preserved
loop-level-preserved c =
    let levels = c.args.levels.now in
    let place = c.loop-level.level-index in
    let next = ap (λ count. count * c.level-item.result.arity) c.loop-level.invariant.count
    ∙ sym (count_next levels place c.level-item.result c.loop-level-test.true c.level-item.is) in
    record {
      count = next;
      sets =
          mapped_more (λ depth. depth.items)
          (λ depth. sets_covered c.args.numbers.now (product (take depth (arities levels)))) c.loop-level.sets.items _ _ (place + 1)
          c.in_ok-push-2.ensures.items c.loop-level.invariant.sets
          (c.in_ok-sets_covered-2.ensures ∙ ap (sets_covered c.args.numbers.now) next);
    }

pub returns : goal.returns
unfolding depth_sets
returns c =
    let all : c.loop-level.level-index ≡ length c.args.levels.now = omega arith in
    c.loop-level.invariant.sets
    ∙ ap (λ count. map (λ depth. sets_covered c.args.numbers.now (product (take depth (arities c.args.levels.now))))
    (range_with_len 0 (count + 1))) all
