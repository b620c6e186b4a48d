use Rattle.std.proofs.Common.{ap, sym, refl, subst}
use Rattle.std.specs.Prelude.{IsSomeAnd}
use Rattle.lock_rules.specs.Tag.{leaf}
use Rattle.clof_compose.specs.Calls.{HasOpened}
use Rattle.clof_compose.specs.Contexts.{IsContextOf}
use Rattle.clof_compose.specs.Courses.{course_of}
use Rattle.clof_compose.proofs.Owned.{some_with}
use Rattle.clof_compose.proofs.Releasing.{may_release_lowest}
use Rattle.level_callers.proofs.holder.noted.Goals as goal

pub returns-clause-root : goal.returns-clause-root
returns-clause-root g c =
    let others = c.root.ensures.others c.call.new.root in
    let number = ap (λ s. s.context.number) others in
    let opened = subst (λ o. IsSomeAnd o (HasOpened (λ n. n.calls.callers) (λ _. leaf 0) (g.C.Composed.tag c.args._lock.now)
    (g.C.Composed.level c.args._lock.now) c.args.share.now)) c.root.ensures.value c.requires.opened in
    some_with _ (g.C.Held.Standing.stand c.args.held) _ c.call.new.root others
    (may_release_lowest (λ n. n.calls.callers) (λ _. leaf 0) (g.C.Composed.tag c.args._lock.now) (g.C.Composed.level c.args._lock.now) _ _
    _ c.root.result.now c.call.new.root c.requires.lowest opened
    (subst (λ n. IsContextOf (course_of (g.C.Composed.tag c.args._lock.now)).shape 0 c.args.share.now.caller n) (sym number)
    c.requires.context) c.call.ensures.trail refl c.call.ensures.noted c.caller.ensures)
