use Rattle.std.proofs.Common.{◌≡◌, ℕ, ◌<◌, ◌≤◌}
use Rattle.keep_local.specs.Shapes.{top_of, callers_of, node_of}
use Rattle.keep_local.proofs.tree.is_nested.Given as goal

abbrev pub invariant-loop-v : goal.invariant-loop-v
invariant-loop-v l = (u w j k : ℕ) → u < l.v → w < callers_of l.shape → j < k → k ≤ top_of l.shape
    → node_of l.shape u j ≡ node_of l.shape w j → node_of l.shape u k ≡ node_of l.shape w k
