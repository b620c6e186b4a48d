use Rattle.std.proofs.Common.{ℕ, ◌<◌}
use Rattle.keep_local.specs.Shapes.{HasNode, node_of}
use Rattle.keep_local.proofs.tree.has_no_gaps_beside.Given as goal

abbrev pub invariant-loop-k : goal.invariant-loop-k
invariant-loop-k l = (i : ℕ) → i < l.k → (n : ℕ) → n < node_of l.shape l.w i → HasNode l.shape i n
