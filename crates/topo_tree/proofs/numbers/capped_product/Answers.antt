use Rattle.std.proofs.Common.{◌-◌, ◌^◌, ◌*◌, min, take, slice_index_or, sym, ap, ◌∙◌}
use Rattle.topo_tree.specs.Numbers.{loop_product}
use Rattle.topo_tree.proofs.Numbering.{capped_more, loop_product_more, sound_at, no_loop}
use Rattle.topo_tree.proofs.numbers.capped_product.Goals as goal

pub loop-given-preserved : goal.loop-given-preserved
loop-given-preserved c =
    let loops = c.args.loops.now in
    let place = c.loop-given.given-index in
    let sound = sound_at loops place no_loop c.loop-given-test.true c.requires in
    let given = slice_index_or loops place no_loop in
    c.saturating_mul-product.ensures
    ∙ ap (λ n. min (n * given.count) (2 ^ 32 - 1)) c.loop-given.invariant
    ∙ capped_more (loop_product (take place loops)) given.count (2 ^ 32 - 1) sound.count.0
    ∙ ap (λ n. min n (2 ^ 32 - 1)) (sym (loop_product_more loops place no_loop c.loop-given-test.true))
