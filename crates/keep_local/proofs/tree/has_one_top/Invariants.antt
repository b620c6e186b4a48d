use Rattle.std.proofs.Common.{◌≡◌, ℕ, ◌<◌}
use Rattle.keep_local.specs.Shapes.{top_of, node_of}
use Rattle.keep_local.proofs.tree.has_one_top.Given as goal

abbrev pub invariant-loop-w : goal.invariant-loop-w
invariant-loop-w l = (v : ℕ) → v < l.w → node_of l.shape v (top_of l.shape) ≡ 0
