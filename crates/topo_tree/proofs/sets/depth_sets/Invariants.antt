use Rattle.std.proofs.Common.{◌≡◌, ◌+◌, map, take}
use Rattle.std.specs.List.{range_with_len}
use Rattle.synth_text.specs.Rules.{arities, product}
use Rattle.topo_tree.specs.TableLists.{sets_covered}
use Rattle.topo_tree.proofs.sets.depth_sets.Given as goal

abbrev pub invariant-loop-level : goal.invariant-loop-level
invariant-loop-level l =
    record {
      count : l.count ≡ product (take l.level-index (arities l.levels));
      sets : map (λ depth. depth.items) l.sets.items ≡ map (λ depth. sets_covered l.numbers (product (take depth (arities l.levels))))
          (range_with_len 0 (l.level-index + 1));
    }
