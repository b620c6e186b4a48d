use Rattle.std.proofs.Common.{◌≡◌, ℕ, ◌<◌}
use Rattle.keep_local.specs.Shapes.{node_of}
use Rattle.keep_local.proofs.tree.has_node.Given as goal

abbrev pub invariant-loop-v : goal.invariant-loop-v
invariant-loop-v l = (u : ℕ) → u < l.v → ¬ (node_of l.shape u l.k ≡ l.n)
