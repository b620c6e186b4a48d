use Rattle.std.proofs.Common.{ap, ◌∙◌, subst, sym}
use Rattle.std.specs.Prelude.{IsSomeAnd}
use Rattle.lock_rules.specs.Trees.{tree_of_lists}
use Rattle.clof_compose.specs.Calls.{HasOpened}
use Rattle.clof_compose.specs.Courses.{course_of}
use Rattle.clof_compose.specs.Passes.{IsNumber}
use Rattle.clof_compose.proofs.Owned.{some_with}
use Rattle.clof_compose.proofs.Releasing.{may_release_lowest}
use Rattle.kv_history.specs.Log.{IsNext, calls}
use Rattle.mc_text.specs.Commands.{commands_left}
use Rattle.mc_text.specs.Request.{view}
use Rattle.threaded_runner.specs.Books.{book_calls, book_tag}
use Rattle.threaded_runner.proofs.Turns.{takes_next}
use Rattle.walked_runner.proofs.Tasks.{kept_trail, left_then, lowest_context, one_left, turns_command}
use Rattle.walked_runner.proofs.moving.leave.Goals as goal

pub unreachable-requires : goal.unreachable-requires
unreachable-requires g c =
    one_left _ c.args.task.now.share (commands_left c.args.task.now.commands) c.requires.begun c.in_default.ensures.commands.0

pub apply-refused-requires : goal.apply-refused-requires
apply-refused-requires g c =
    let tag = g.C.Composed.tag c.args.lock.now in
    let share = c.args.task.now.share in
    let opened = subst (λ o. IsSomeAnd o (HasOpened book_calls book_tag tag (g.C.Composed.level c.args.lock.now) share))
    c.root.ensures.value c.requires.opened in
    let at = turns_command (course_of tag).payload share (commands_left c.args.task.now.commands) c.requires.begun (view c.in-Some.command)
    (commands_left c.next.new.self) c.in-Some.ensures.commands in
    record {
      next = subst (λ n. IsNext c.root.result.now.payload.journal.sections (calls c.root.result.now.payload.journal) n
          (view c.in-Some.command)) (sym c.caller.ensures)
          (takes_next tag (g.C.Composed.level c.args.lock.now) c.requires.begun.before share c.root.result.now (view c.in-Some.command)
          opened c.requires.begun.made at);
    }

pub begin_release-requires-clause-stands : goal.begin_release-requires-clause-stands
begin_release-requires-clause-stands g c =
    let tag = g.C.Composed.tag c.args.lock.now in
    let level = g.C.Composed.level c.args.lock.now in
    let opened = subst (λ o. IsSomeAnd o (HasOpened book_calls book_tag tag level c.args.task.now.share)) c.root.ensures.value
    c.requires.opened in
    c.root.ensures.stays c.apply-refused.new.root
    (kept_trail tag level _ c.args.task.now.share c.root.result.now c.apply-refused.new.root opened c.apply-refused.ensures.trail)

pub begin_release-requires-clause-root : goal.begin_release-requires-clause-root
begin_release-requires-clause-root g c =
    let others = c.root.ensures.others c.apply-refused.new.root in
    let number = ap (λ s. s.context.number) others ∙ c.requires.held.number_is in
    let opened = subst (λ o. IsSomeAnd o (HasOpened book_calls book_tag (g.C.Composed.tag c.args.lock.now)
    (g.C.Composed.level c.args.lock.now) c.args.task.now.share)) c.root.ensures.value c.requires.opened in
    some_with _ (g.C.Held.Standing.stand c.args.held) _ c.apply-refused.new.root others
    (may_release_lowest book_calls book_tag (g.C.Composed.tag c.args.lock.now) (g.C.Composed.level c.args.lock.now) _ _
    _ c.root.result.now c.apply-refused.new.root c.requires.lowest opened (lowest_context _ _ _ number)
    c.apply-refused.ensures.trail (ap tree_of_lists c.apply-refused.ensures.sections) c.apply-refused.ensures.called c.caller.ensures)

pub returns-in-Not-clause-stands : goal.returns-in-Not-clause-stands
returns-in-Not-clause-stands g c =
    let others = c.root.ensures.others c.apply-refused.new.root in
    let same = c.in-Not.ensures.leave ∙ ap (λ s. s.context) others in
    let left = left_then (course_of (g.C.Composed.tag c.args.lock.now)).payload c.args.task.now.share
    (commands_left c.args.task.now.commands) c.requires.begun (view c.in-Some.command) (commands_left c.next.new.self)
    c.in-Some.ensures.commands in (
      subst (IsNumber (g.C.Composed.has c.args.lock.now) (g.C.Composed.level c.args.lock.now) (g.C.Composed.tag c.args.lock.now)
          c.args.task.now.share.caller) (sym same) c.requires.held,
      c.in-Not.ensures.descends,
      left,
    )

pub returns-in-Got-clause-stands : goal.returns-in-Got-clause-stands
returns-in-Got-clause-stands g c =
    let others = c.root.ensures.others c.apply-refused.new.root in
    let same = c.in-Got.ensures.pass ∙ ap (λ s. s.context) others in
    let left = left_then (course_of (g.C.Composed.tag c.args.lock.now)).payload c.args.task.now.share
    (commands_left c.args.task.now.commands) c.requires.begun (view c.in-Some.command) (commands_left c.next.new.self)
    c.in-Some.ensures.commands in (
      subst (IsNumber (g.C.Composed.has c.args.lock.now) (g.C.Composed.level c.args.lock.now) (g.C.Composed.tag c.args.lock.now)
          c.args.task.now.share.caller) (sym same) c.requires.held,
      left,
    )
