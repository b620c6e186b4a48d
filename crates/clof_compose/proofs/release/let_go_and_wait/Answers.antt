use Rattle.std.proofs.Common.{ap, refl, sym, subst}
use Rattle.std.specs.Prelude.{IsSomeAnd}
use Rattle.clof_compose.specs.Calls.{ClosesWith}
use Rattle.clof_compose.specs.Levels.{kept_stand}
use Rattle.clof_compose.proofs.Closes.{closes_at, closes_below}
use Rattle.clof_compose.proofs.release.let_go_and_wait.Goals as goal

pub returns-clause-tests : goal.returns-clause-tests
returns-clause-tests g c =
    let high = closes_at _ _ (g.H.Pass.Resting.rest c.release-pass.result).report _ _ (ap (λ h. (kept_stand g.H.Held.Standing.stand h).root)
    (sym c.take_kept.ensures.held)) c.requires.above c.release-pass.ensures.tests in
    subst (λ n. IsSomeAnd (kept_stand g.H.Held.Standing.stand c.args.own.now.high).root (ClosesWith c.args.level n))
    (sym c.put_back.ensures.report)
    (closes_below c.args.level _ (g.H.Pass.Resting.rest c.release-pass.result).report _ _ _ refl c.in_default.ensures.same high)
