use Rattle.std.proofs.Common.{refl, below_more}
use Rattle.keep_local.proofs.tree.has_no_gap_below.Goals as goal

pub loop-n-preserved : goal.loop-n-preserved
loop-n-preserved c = below_more _ _ c.loop-n.invariant (c.if-not-has_node.ensures.0 refl)
