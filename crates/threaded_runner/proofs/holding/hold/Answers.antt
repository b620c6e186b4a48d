use Rattle.std.proofs.Common.{ap, sym, ◌∙◌, subst}
use Rattle.std.specs.Prelude.{IsSomeAnd}
use Rattle.lock_rules.specs.Trees.{tree_of_lists}
use Rattle.keep_local.specs.States.{ShareState}
use Rattle.clof_compose.specs.Calls.{HasOpened}
use Rattle.clof_compose.specs.Contexts.{IsContextOf}
use Rattle.clof_compose.specs.Courses.{course_of}
use Rattle.clof_compose.proofs.Owned.{some_with}
use Rattle.clof_compose.proofs.Releasing.{may_release_lowest}
use Rattle.kv_history.specs.Log.{IsNext, calls}
use Rattle.mc_text.specs.Request.{view}
use Rattle.threaded_runner.specs.Jobs.{IsCommandAt}
use Rattle.threaded_runner.specs.Books.{book_calls, book_tag}
use Rattle.threaded_runner.proofs.Turns.{takes_next}
use Rattle.threaded_runner.proofs.holding.hold.Goals as goal

pub apply-refused-requires : goal.apply-refused-requires
apply-refused-requires g c =
    let tag = g.C.Composed.tag c.args.lock.now in
    let share = c.acquire-held.new.share in
    let made = c.acquire-held.ensures.made in
    let caller = ap (λ (s : ShareState). s.caller) made in
    let opened = subst (λ o. IsSomeAnd o (HasOpened book_calls book_tag tag (g.C.Composed.level c.args.lock.now) share))
    c.root.ensures.value c.acquire-held.ensures.opened in
    let at = subst (λ n. IsCommandAt (course_of tag).payload n c.args.share.now.made (view c.args.command)) (sym caller) c.requires.next in
    record {
      next = subst (λ n. IsNext c.root.result.now.payload.journal.sections (calls c.root.result.now.payload.journal) n
          (view c.args.command)) (caller ∙ sym c.caller-caller.ensures)
          (takes_next tag (g.C.Composed.level c.args.lock.now) c.args.share.now.made share c.root.result.now (view c.args.command) opened
          (ap (λ (s : ShareState). s.made) made) at);
    }

pub release-requires-clause-root : goal.release-requires-clause-root
release-requires-clause-root g c =
    let tag = g.C.Composed.tag c.args.lock.now in
    let level = g.C.Composed.level c.args.lock.now in
    let others = c.root.ensures.others c.apply-refused.new.root in
    let made = c.acquire-held.ensures.made in
    let number = ap (λ s. s.context.number) others ∙ ap (λ k. k.number) c.acquire-held.ensures.held in
    let opened = subst (λ o. IsSomeAnd o (HasOpened book_calls book_tag tag level c.acquire-held.new.share)) c.root.ensures.value
    c.acquire-held.ensures.opened in
    let caller = ap (λ (s : ShareState). s.caller) made in
    let context = subst (λ l. IsContextOf (course_of tag).shape l c.args.share.now.caller (g.C.Pass.Resting.rest
    c.args.pass).context.number) c.requires.lowest c.requires.share.context in
    let own = subst (λ n. IsContextOf (course_of tag).shape 0 n (g.C.Pass.Resting.rest c.args.pass).context.number) (sym caller) context in
    some_with _ (g.C.Held.Standing.stand c.acquire-held.result) _ c.apply-refused.new.root others
    (may_release_lowest book_calls book_tag tag level _ _ _ c.root.result.now c.apply-refused.new.root c.requires.lowest opened
    (subst (λ n. IsContextOf (course_of tag).shape 0 c.acquire-held.new.share.caller n) (sym number) own)
    c.apply-refused.ensures.trail (ap tree_of_lists c.apply-refused.ensures.sections) c.apply-refused.ensures.called
    (c.caller-caller.ensures ∙ sym caller))
