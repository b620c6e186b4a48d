use Rattle.std.proofs.Common.{◌≡◌, ◌<◌, map, take}
use Rattle.std.specs.List.{range_with_len, sum}
use Rattle.topo_tree.specs.Numbers.{loop_product, loop_part}
use Rattle.topo_tree.proofs.numbers.loops_number.Given as goal

abbrev pub invariant-loop-given : goal.invariant-loop-given
invariant-loop-given l =
    record {
      number : l.number ≡ sum (map (loop_part l.loops l.object) (range_with_len 0 l.given-index));
      factor : l.factor ≡ loop_product (take l.given-index l.loops);
      below : l.number < l.factor;
    }
