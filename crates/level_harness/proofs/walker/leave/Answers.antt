use Rattle.std.proofs.Common.{ap, ◌∙◌, subst}
use Rattle.std.specs.Prelude.{IsSomeAnd}
use Rattle.lock_rules.specs.Tag.{leaf}
use Rattle.clof_compose.specs.Calls.{HasOpened}
use Rattle.clof_compose.proofs.Owned.{some_with}
use Rattle.level_harness.specs.Rooms.{roll_tag}
use Rattle.level_harness.proofs.Rooms.{calls_of, lowest_context, room_left}
use Rattle.clof_compose.proofs.Releasing.{may_release_lowest}
use Rattle.level_harness.proofs.walker.leave.Goals as goal

pub call-requires : goal.call-requires
call-requires g c =
    let opened = subst (λ o. IsSomeAnd o (HasOpened calls_of roll_tag (g.C.Composed.tag c.args.lock.now)
    (g.C.Composed.level c.args.lock.now) c.args.share.now)) c.root.ensures.value c.requires.opened in
    record { room = room_left _ _ _ _ opened c.requires.room }

pub begin_release-requires-clause-root : goal.begin_release-requires-clause-root
begin_release-requires-clause-root g c =
    let others = c.root.ensures.others c.call.new.root in
    let number = ap (λ s. s.context.number) others ∙ c.requires.held.number_is in
    let opened = subst (λ o. IsSomeAnd o (HasOpened calls_of roll_tag (g.C.Composed.tag c.args.lock.now)
    (g.C.Composed.level c.args.lock.now) c.args.share.now)) c.root.ensures.value c.requires.opened in
    some_with _ (g.C.Held.Standing.stand c.args.held) _ c.call.new.root others
    (may_release_lowest calls_of roll_tag (g.C.Composed.tag c.args.lock.now) (g.C.Composed.level c.args.lock.now) _ _
    _ c.root.result.now c.call.new.root c.requires.lowest opened (lowest_context _ _ _ number)
    c.call.ensures.trail (ap leaf c.call.ensures.room) c.call.ensures.noted c.caller.ensures)
