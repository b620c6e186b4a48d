use Rattle.std.proofs.Common.{ℕ, ◌<◌}
use Rattle.keep_local.specs.Shapes.{HasNode}
use Rattle.keep_local.proofs.tree.has_no_gap_below.Given as goal

abbrev pub invariant-loop-n : goal.invariant-loop-n
invariant-loop-n l = (m : ℕ) → m < l.n → HasNode l.shape l.k m
