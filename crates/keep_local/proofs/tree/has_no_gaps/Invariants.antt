use Rattle.std.proofs.Common.{ℕ, ◌<◌, ◌≤◌}
use Rattle.keep_local.specs.Shapes.{HasNode, top_of, node_of}
use Rattle.keep_local.proofs.tree.has_no_gaps.Given as goal

abbrev pub invariant-loop-w : goal.invariant-loop-w
invariant-loop-w l = (u : ℕ) → u < l.w → (k : ℕ) → k ≤ top_of l.shape → (n : ℕ) → n < node_of l.shape u k → HasNode l.shape k n
