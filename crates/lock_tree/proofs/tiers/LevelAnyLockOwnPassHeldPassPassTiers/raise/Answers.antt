use Rattle.std.proofs.Common.{ap, refl, ◌∙◌}
use Rattle.clof_compose.specs.Courses.{course_of}
use Rattle.clof_compose.specs.Inside.{high_lock, node_locks}
use Rattle.lock_levels.proofs.MadeKinds.{if_both, kinds_from}
use Rattle.lock_levels.proofs.Levels.{shape_named}
use Rattle.lock_tree.proofs.tiers.LevelAnyLockOwnPassHeldPassPassTiers.raise.Goals as goal

pub add_below-requires-clause-same : goal.add_below-requires-clause-same
add_below-requires-clause-same g c =
    ap (λ t. (course_of t).shape) c.in_ok-high.ensures.raised.tag_is
    ∙ shape_named g.P.Payload.tag c.args.root c.args.shape.now c.requires.shape

pub returns-clause-kinds : goal.returns-clause-kinds
returns-clause-kinds g c =
    if_both c.add_below.result _ _ _ (λ m over made. kinds_from (λ b. b.lock) g.H.HasKinds.has_kinds c.args.plan.now.kinds c.args.level
    c.args.level refl c.kind_at.result c.kind_at.ensures (node_locks m.0) made (high_lock m.0) _ over c.in_ok-high.ensures.kinds)
    c.add_below.ensures.over c.add_below.ensures.made
