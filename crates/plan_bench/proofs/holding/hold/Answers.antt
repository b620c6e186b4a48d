use Rattle.std.proofs.Common.{ap, sym, ◌∙◌, refl, subst}
use Rattle.std.specs.Prelude.{IsSomeAnd}
use Rattle.lock_rules.specs.Tag.{leaf}
use Rattle.clof_compose.specs.Calls.{HasOpened}
use Rattle.clof_compose.specs.Contexts.{IsContextOf}
use Rattle.clof_compose.specs.Courses.{course_of}
use Rattle.clof_compose.proofs.Owned.{some_with}
use Rattle.clof_compose.proofs.Releasing.{may_release_lowest}
use Rattle.plan_bench.proofs.holding.hold.Goals as goal

pub release-requires-clause-root : goal.release-requires-clause-root
release-requires-clause-root g c =
    let others = c.root.ensures.others c.call.new.root in
    let made = c.acquire-held.ensures.made in
    let number = ap (λ s. s.context.number) others ∙ ap (λ k. k.number) c.acquire-held.ensures.held in
    let opened = subst (λ o. IsSomeAnd o (HasOpened (λ n. n.calls.callers) (λ _. leaf 0) (g.C.Composed.tag c.args.lock.now)
    (g.C.Composed.level c.args.lock.now) c.acquire-held.new.share)) c.root.ensures.value c.acquire-held.ensures.opened in
    let context = subst (λ n. IsContextOf (course_of (g.C.Composed.tag c.args.lock.now)).shape 0 n (g.C.Pass.Resting.rest
    c.args.pass).context.number) (sym (ap (λ s. s.caller) made)) c.requires.share.context in
    some_with _ (g.C.Held.Standing.stand c.acquire-held.result) _ c.call.new.root others
    (may_release_lowest (λ n. n.calls.callers) (λ _. leaf 0) (g.C.Composed.tag c.args.lock.now) (g.C.Composed.level c.args.lock.now) _ _
    _ c.root.result.now c.call.new.root c.requires.lowest opened
    (subst (λ n. IsContextOf (course_of (g.C.Composed.tag c.args.lock.now)).shape 0 c.acquire-held.new.share.caller n) (sym number) context)
    c.call.ensures.trail refl c.call.ensures.noted c.caller.ensures)
