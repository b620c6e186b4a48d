use Rattle.std.proofs.Common.{◌≡◌, ℕ, ◌<◌}
use Rattle.keep_local.specs.Shapes.{node_of}
use Rattle.keep_local.proofs.tree.are_nested.Given as goal

abbrev pub invariant-loop-k : goal.invariant-loop-k
invariant-loop-k l = (j i : ℕ) → j < i → i < l.k → node_of l.shape l.v j ≡ node_of l.shape l.w j
    → node_of l.shape l.v i ≡ node_of l.shape l.w i
