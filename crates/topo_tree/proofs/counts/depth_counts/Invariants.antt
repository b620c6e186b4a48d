use Rattle.std.proofs.Common.{◌≡◌, ◌+◌, map, take}
use Rattle.std.specs.List.{range_with_len}
use Rattle.synth_text.specs.Rules.{arities, product}
use Rattle.topo_tree.proofs.counts.depth_counts.Given as goal

abbrev pub invariant-loop-level : goal.invariant-loop-level
invariant-loop-level l =
    record {
      count : l.count ≡ product (take l.level-index (arities l.levels));
      counts : l.counts.items ≡ map (λ depth. product (take depth (arities l.levels))) (range_with_len 0 (l.level-index + 1));
    }
