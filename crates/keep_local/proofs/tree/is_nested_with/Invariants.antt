use Rattle.std.proofs.Common.{◌≡◌, ℕ, ◌<◌, ◌≤◌}
use Rattle.keep_local.specs.Shapes.{top_of, node_of}
use Rattle.keep_local.proofs.tree.is_nested_with.Given as goal

abbrev pub invariant-loop-w : goal.invariant-loop-w
invariant-loop-w l = (u j k : ℕ) → u < l.w → j < k → k ≤ top_of l.shape → node_of l.shape l.v j ≡ node_of l.shape u j
    → node_of l.shape l.v k ≡ node_of l.shape u k
