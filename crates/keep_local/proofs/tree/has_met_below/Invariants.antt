use Rattle.std.proofs.Common.{◌≡◌, ℕ, ◌<◌}
use Rattle.keep_local.specs.Shapes.{node_of}
use Rattle.keep_local.proofs.tree.has_met_below.Given as goal

abbrev pub invariant-loop-j : goal.invariant-loop-j
invariant-loop-j l = (i : ℕ) → i < l.j → ¬ (node_of l.shape l.v i ≡ node_of l.shape l.w i)
