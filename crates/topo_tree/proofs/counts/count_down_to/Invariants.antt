use Rattle.std.proofs.Common.{◌≡◌, take}
use Rattle.synth_text.specs.Rules.{arities, product}
use Rattle.topo_tree.proofs.counts.count_down_to.Given as goal

abbrev pub invariant-loop-level : goal.invariant-loop-level
invariant-loop-level l = l.count ≡ product (take l.level-index (arities l.fn.levels))
