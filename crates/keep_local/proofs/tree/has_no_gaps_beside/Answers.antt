use Rattle.std.proofs.Common.{ℕ, ◌<◌, refl, subst, below_more}
use Rattle.keep_local.specs.Shapes.{HasNode}
use Rattle.keep_local.proofs.tree.has_no_gaps_beside.Goals as goal

pub loop-k-preserved : goal.loop-k-preserved
loop-k-preserved c =
    below_more _ _ c.loop-k.invariant
    (subst (λ (m : ℕ). (n : ℕ) → n < m → HasNode c.args.shape.now c.loop-k.k n) c.node.ensures
    (c.if-not-has_no_gap_below.ensures.0 refl))
