use Rattle.std.proofs.Common.{◌≡◌, ◌+◌, arith, subst}
use Rattle.lock_levels.proofs.Raised.{risen}
use Rattle.lock_levels.proofs.MadeKinds.{kinds_from}
use Rattle.lock_rising.proofs.rising.with_fourth.Goals as goal

pub with_lowest-requires-in-Ok-clause-raised : goal.with_lowest-requires-in-Ok-clause-raised
with_lowest-requires-in-Ok-clause-raised g c κs within =
    risen c.args.level c.in-Ok.ensures.raised 1 (omega (arith, c.requires.most, c.if-level-eq0.false))

pub with_lowest-requires-in-Ok-clause-kinds : goal.with_lowest-requires-in-Ok-clause-kinds
with_lowest-requires-in-Ok-clause-kinds g c κs within =
    let made = c.in-Ok.ensures in
    let same : c.args.level ≡ 1 = omega (arith, c.requires.most, c.if-level-eq0.false) in
    kinds_from (λ b. b.lock) g.H.HasKinds.has_kinds c.args.given.plan.now.kinds c.args.level 1 same
    c.kind_at-kind.result c.kind_at-kind.ensures _ made.made _ c.args.high made.over c.requires.kinds

pub with_lowest-requires-clause-raised : goal.with_lowest-requires-clause-raised
with_lowest-requires-clause-raised g c κs within =
    risen (c.args.level + 1) c.requires.raised 1 (omega (arith, c.if-level-eq0.true))

pub with_lowest-requires-clause-kinds : goal.with_lowest-requires-clause-kinds
with_lowest-requires-clause-kinds g c κs within =
    let lowest : c.args.level + 1 ≡ 1 = omega (arith, c.if-level-eq0.true) in
    subst (λ n. g.H.HasKinds.has_kinds c.args.high c.args.given.plan.now.kinds n) lowest c.requires.kinds
