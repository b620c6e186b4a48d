use Rattle.std.proofs.Common.{◌≡◌, ◌-◌, ◌^◌, min, take}
use Rattle.topo_tree.specs.Numbers.{loop_product}
use Rattle.topo_tree.proofs.numbers.capped_product.Given as goal

abbrev pub invariant-loop-given : goal.invariant-loop-given
invariant-loop-given l = l.product ≡ min (loop_product (take l.given-index l.loops)) (2 ^ 32 - 1)
