use Rattle.std.proofs.Common.{arith, sym, ap, ◌∙◌, ◌*◌, ◌+◌}
use Rattle.topo_tree.proofs.CountLaws.{count_step, count_within}
use Rattle.topo_tree.proofs.counts.count_down_to.Goals as goal

pub overflow_mul-count : goal.overflow_mul-count
overflow_mul-count c =
    let levels = c.args.levels.now in
    let place = c.loop-level.level-index in
    let step = count_step levels c.args.depth place c.level-item.result c.requires.within c.loop-level-test.true c.level-item.is in
    omega (
      arith,
      step,
      ap (λ n. n * c.level-item.result.arity) c.loop-level.invariant,
      count_within
          (place + 1) levels c.requires.some_each,
    )

pub loop-level-preserved : goal.loop-level-preserved
loop-level-preserved c =
    ap (λ n. n * c.level-item.result.arity) c.loop-level.invariant
    ∙ sym (count_step c.args.levels.now c.args.depth c.loop-level.level-index c.level-item.result c.requires.within c.loop-level-test.true
    c.level-item.is)
