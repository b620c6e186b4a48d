use Rattle.std.proofs.Common.{refl}
use Rattle.lock_levels.proofs.MadeKinds.{kinds_from}
use Rattle.lock_rising.proofs.rising.with_lowest.Goals as goal

pub run_under-requires-clause-kinds : goal.run_under-requires-clause-kinds
run_under-requires-clause-kinds g c κs within =
    let made = c.in-Ok.ensures in
    kinds_from (λ b. b.lock) g.H.HasKinds.has_kinds c.args.given.plan.now.kinds 0 0 refl c.kind_at-kind.result
    c.kind_at-kind.ensures _ made.made _ c.args.high made.over c.requires.kinds
