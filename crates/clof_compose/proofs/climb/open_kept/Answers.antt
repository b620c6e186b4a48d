use Rattle.std.proofs.Common.{ap, refl, sym, ◌∙◌}
use Rattle.keep_local.specs.Turns.{run}
use Rattle.clof_compose.specs.Levels.{kept_stand}
use Rattle.clof_compose.proofs.Climbs.{share_own, kept_begins, kept_opened, kept_in_hand}
use Rattle.clof_compose.proofs.Owned.{handed_over, kept_above, kept_tagged, holding_with, some_with}
use Rattle.clof_compose.proofs.climb.open_kept.Goals as goal

pub open_turn-requires-clause-own : goal.open_turn-requires-clause-own
open_turn-requires-clause-own g c =
    let over = handed_over g.Pass.Resting.rest g.Held.Standing.stand g.Held.Standing.stands g.P.Payload.calls g.P.Payload.tag _ _ _ _ _
    c.args.own.now.high _ (sym c.parked.ensures ∙ c.if-parked.true) c.requires.fit c.requires.above refl c.kept_root.ensures.value in
    share_own g.P.Payload.calls g.P.Payload.tag _ _ _ _ _ _ over c.requires.share

pub open_turn-requires-clause-begins : goal.open_turn-requires-clause-begins
open_turn-requires-clause-begins g c =
    let over = handed_over g.Pass.Resting.rest g.Held.Standing.stand g.Held.Standing.stands g.P.Payload.calls g.P.Payload.tag _ _ _ _ _
    c.args.own.now.high _ (sym c.parked.ensures ∙ c.if-parked.true) c.requires.fit c.requires.above refl c.kept_root.ensures.value in
    kept_begins g.P.Payload.calls g.P.Payload.tag _ _ _ _ _ _ over c.requires.share

pub returns-then-parked-clause-holds : goal.returns-then-parked-clause-holds
returns-then-parked-clause-holds g c =
    let e = sym c.parked.ensures ∙ c.if-parked.true in
    let over = handed_over g.Pass.Resting.rest g.Held.Standing.stand g.Held.Standing.stands g.P.Payload.calls g.P.Payload.tag _ _ _ _ _
    c.args.own.now.high _ e c.requires.fit c.requires.above refl c.kept_root.ensures.value in
    let kept = kept_in_hand g.P.Payload.calls g.P.Payload.tag _ _ _ _ _ c.kept_root.result.now over c.requires.share c.open_turn.new.root
    c.open_turn.new.share c.open_turn.ensures.payload c.open_turn.ensures.opened
    (ap (λ s. s.caller) c.open_turn.ensures.made) c.open_turn.ensures.lawful c.open_turn.ensures.counted (kept_stand
    g.Held.Standing.stand c.args.own.now.high).context.level in
    holding_with _ _ _ _ _ (kept_stand g.Held.Standing.stand c.args.own.now.high) _ c.open_turn.new.root (c.kept_root.ensures.others
    c.open_turn.new.root)
    (kept_above g.Pass.Resting.rest g.Held.Standing.stand g.Held.Standing.stands g.P.Payload.calls g.P.Payload.tag _ c.args.own.now.high e
    c.requires.above)
    (kept_tagged g.Pass.Resting.rest g.Held.Standing.stand g.Held.Standing.stands g.P.Payload.calls g.P.Payload.tag _ _
    c.args.own.now.high e refl)
    (c.kept_root.ensures.stays c.open_turn.new.root kept)
    (over.kept_is ∙ sym (ap (λ s. run c.args.level s.closed) c.open_turn.ensures.opened))

pub returns-then-parked-clause-opened : goal.returns-then-parked-clause-opened
returns-then-parked-clause-opened g c =
    let over = handed_over g.Pass.Resting.rest g.Held.Standing.stand g.Held.Standing.stands g.P.Payload.calls g.P.Payload.tag _ _ _ _ _
    c.args.own.now.high _ (sym c.parked.ensures ∙ c.if-parked.true) c.requires.fit c.requires.above refl c.kept_root.ensures.value in
    some_with _ (kept_stand g.Held.Standing.stand c.args.own.now.high) _ c.open_turn.new.root (c.kept_root.ensures.others
    c.open_turn.new.root)
    (kept_opened g.P.Payload.calls g.P.Payload.tag _ _ _ _ _ c.kept_root.result.now over c.requires.share c.open_turn.new.root
    c.open_turn.new.share c.open_turn.ensures.payload c.open_turn.ensures.opened
    (ap (λ s. s.caller) c.open_turn.ensures.made) c.open_turn.ensures.lawful c.open_turn.ensures.counted)
