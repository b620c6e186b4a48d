use Rattle.std.proofs.Common.{◌≡◌, ap, sym, ◌∙◌, subst, arith}
use Rattle.std.specs.Prelude.{slice_get, IsSomeAnd}
use Rattle.lock_rules.specs.Steps.{IfGot, IfNot}
use Rattle.clof_compose.specs.Calls.{HasOpened}
use Rattle.clof_compose.specs.Levels.{kept_stand, level_context}
use Rattle.clof_compose.specs.LevelTokens.{level_climb, level_stand}
use Rattle.clof_compose.specs.Nodes.{locks_of}
use Rattle.clof_compose.proofs.Nodes.{level_same, node_context, may_go_up, pass_of}
use Rattle.clof_compose.proofs.Raised.{above_level, entered_above}
use Rattle.clof_compose.proofs.level.LevelPassPassComposed.begin.Goals as goal

pub go_up-requires-clause-context : goal.go_up-requires-clause-context
go_up-requires-clause-context g c =
    let here = ap (λ l. slice_get (locks_of l) c.args.pass.id.node) (sym c.deref.ensures.value) ∙ c.lock_of.ensures in
    node_context c.requires.sound c.requires.own c.lock_of.result.now here _ _ c.in-Got.ensures.tagged

pub go_up-requires-clause-tagged : goal.go_up-requires-clause-tagged
go_up-requires-clause-tagged g c =
    let here = ap (λ l. slice_get (locks_of l) c.args.pass.id.node) (sym c.deref.ensures.value) ∙ c.lock_of.ensures in
    c.in-Got.ensures.tagged ∙ sym (pass_of c.requires.sound c.requires.own c.lock_of.result.now here).tag_is
    ∙ sym (ap (λ p. p.tag) c.in-Got.ensures.held)

pub go_up-requires-clause-share : goal.go_up-requires-clause-share
go_up-requires-clause-share g c =
    let here = ap (λ l. slice_get (locks_of l) c.args.pass.id.node) (sym c.deref.ensures.value) ∙ c.lock_of.ensures in
    may_go_up c.requires.sound c.requires.own c.lock_of.result.now here _ _ c.in-Got.ensures.tagged c.args.share.now c.requires.share

pub returns-in-Not-clause-queue : goal.returns-in-Not-clause-queue
returns-in-Not-clause-queue g c = ap (level_context c.args.pass.id.level c.args.pass.id.node c.args.pass.id.number) c.in-Not.ensures.queue

pub returns-in-Not-clause-above : goal.returns-in-Not-clause-above
returns-in-Not-clause-above g c = let same = level_same c.requires.sound c.requires.own in omega (arith, same)

pub returns-in-Not-clause-entered : goal.returns-in-Not-clause-entered
returns-in-Not-clause-entered g c =
    let entered = c.in-Not.ensures.entered in record {
      lowest = λ _. entered;
      entered = omega (arith, entered);
    }

pub returns-clause-queue : goal.returns-clause-queue
returns-clause-queue g c =
    subst (λ x. IfNot c.go_up.result (λ q. (level_climb g.B.Queue.Queueing.waiting g.H.Queue.Climbing.climb q).context ≡ x))
    (ap (level_context c.args.pass.id.level c.args.pass.id.node c.args.pass.id.number) c.in-Got.ensures.held) c.go_up.ensures.queue

pub returns-clause-climbs : goal.returns-clause-climbs
returns-clause-climbs g c = c.go_up.ensures.climbs

pub returns-clause-above : goal.returns-clause-above
returns-clause-above g c = above_level (level_climb g.B.Queue.Queueing.waiting g.H.Queue.Climbing.climb) _ _
    (level_same c.requires.sound c.requires.own) c.go_up.result c.go_up.ensures.above

pub returns-clause-entered : goal.returns-clause-entered
returns-clause-entered g c = entered_above (level_climb g.B.Queue.Queueing.waiting g.H.Queue.Climbing.climb) _ _
    (level_same c.requires.sound c.requires.own) _ c.go_up.result c.go_up.ensures.above c.go_up.ensures.entered

pub returns-clause-not_made : goal.returns-clause-not_made
returns-clause-not_made g c = c.go_up.ensures.not_made

pub returns-clause-held : goal.returns-clause-held
returns-clause-held g c =
    subst (λ x. IfGot c.go_up.result (λ h. (level_stand g.H.Held.Standing.stand h).context ≡ x))
    (ap (level_context c.args.pass.id.level c.args.pass.id.node c.args.pass.id.number) c.in-Got.ensures.held) c.go_up.ensures.held

pub returns-clause-stands : goal.returns-clause-stands
returns-clause-stands g c = c.go_up.ensures.stands

pub returns-clause-made : goal.returns-clause-made
returns-clause-made g c = c.go_up.ensures.made

pub returns-clause-opened : goal.returns-clause-opened
returns-clause-opened g c =
    subst (λ n. IfGot c.go_up.result (λ h. IsSomeAnd (kept_stand g.H.Held.Standing.stand h.low.value.high).root (HasOpened
    g.P.Payload.calls g.P.Payload.tag (g.H.Composed.tag c.args.self.now.high) n c.go_up.new.share)))
    (level_same c.requires.sound c.requires.own) c.go_up.ensures.opened
