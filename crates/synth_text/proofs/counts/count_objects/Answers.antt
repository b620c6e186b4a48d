use Rattle.std.proofs.Common.{◌≡◌, ◌+◌, ◌*◌, ◌≤◌, ◌∷◌, drop, arith}
use Rattle.synth_text.specs.Rules.{arities, product, tree_size}
use Rattle.synth_text.proofs.Lists.{drop_element}
use Rattle.synth_text.proofs.RuleLaws.{product_some, product_goes_on, tree_goes_on, product_over}
use Rattle.synth_text.proofs.counts.count_objects.Goals as goal

pub returns-then-last-gt-PU_LIMIT : goal.returns-then-last-gt-PU_LIMIT
returns-then-last-gt-PU_LIMIT c =
    let inv = c.loop-level.invariant in
    let level = c.level-item.result in
    let rest = drop (c.loop-level.level-index + 1) c.args.levels.now in
    let e : drop c.loop-level.level-index c.args.levels.now ≡ level ∷ rest =
    drop_element c.args.levels.now c.loop-level.level-index level c.loop-level-test.true c.level-item.is in
    let some = rw e at inv.some_each in
    let wide = rw e at inv.product in
    product_over 4096 (c.loop-level.last * level.arity) (product (arities rest)) _ (rw c.from-last.ensures at c.if-last-gt-PU_LIMIT.true)
    (product_some rest some.1)
    (product_goes_on c.loop-level.last level.arity (product (arities rest)) _ wide)

pub loop-level-preserved : goal.loop-level-preserved
loop-level-preserved c =
    let inv = c.loop-level.invariant in
    let level = c.level-item.result in
    let rest = drop (c.loop-level.level-index + 1) c.args.levels.now in
    let e : drop c.loop-level.level-index c.args.levels.now ≡ level ∷ rest =
    drop_element c.args.levels.now c.loop-level.level-index level c.loop-level-test.true c.level-item.is in
    let some = rw e at inv.some_each in
    let wide = rw e at inv.product in
    let tall = rw e at inv.tree in
    let small : c.loop-level.last * level.arity ≤ 4096 = rw c.from-last.ensures at c.if-last-gt-PU_LIMIT.false in
    let had = inv.bound in
    rw c.from-last.ensures
    record {
      few = small;
      bound = omega arith;
      some_each = some.1;
      product = product_goes_on c.loop-level.last level.arity (product (arities rest)) _ wide;
      tree = tree_goes_on c.loop-level.objects c.loop-level.last level.arity (tree_size (arities rest)) _ tall;
    }
