use Rattle.std.proofs.Common.{◌≡◌, inr, ap, sym, ◌∙◌, refl, subst}
use Rattle.std.specs.Prelude.{slice_get, IsSomeAnd}
use Rattle.lock_rules.specs.Steps.{IfGot, IfNot}
use Rattle.clof_compose.specs.Calls.{MayTurn, HasClimbed, HasOpened}
use Rattle.clof_compose.specs.Courses.{course_of}
use Rattle.clof_compose.specs.Levels.{IsHolding, IsStanding, kept_stand, level_context}
use Rattle.clof_compose.specs.LevelTokens.{level_climb, level_stand}
use Rattle.clof_compose.specs.Meanings.{Climb}
use Rattle.clof_compose.specs.Nodes.{IsOfLevel, locks_of}
use Rattle.clof_compose.specs.Stages.{queue_climb, IsQueued}
use Rattle.clof_compose.specs.declared.stage.QueueStage.TheVariants.{High}
use Rattle.clof_compose.proofs.Climbs.{may_turn_above}
use Rattle.clof_compose.proofs.Nodes.{above, high_context, high_may, level_same, node_context, may_go_up, pass_of}
use Rattle.clof_compose.proofs.Owned.{holding_anew}
use Rattle.clof_compose.proofs.Raised.{climbed_above, climbing_on}
use Rattle.clof_compose.proofs.level.LevelPassPassComposed.poll.Goals as goal

pub go_up-requires-clause-context : goal.go_up-requires-clause-context
go_up-requires-clause-context g c =
    let own = subst (λ s. IsOfLevel g.B.Basic.name g.B.Basic.tag c.args.self.now.level c.args.self.now.parents.items (locks_of
    c.args.self.now.nodes.items) (queue_climb g.B.Queue.Queueing.waiting g.H.Queue.Climbing.climb c.args.queue.id.level c.args.queue.id.node
    c.args.queue.id.number s).context) c.in-Low.is c.requires.own in
    let here = ap (λ l. slice_get (locks_of l) c.args.queue.id.node) (sym c.deref.ensures.value) ∙ c.lock_of.ensures in
    node_context c.requires.sound own c.lock_of.result.now here _ _ c.in-Got.ensures.tagged

pub go_up-requires-clause-tagged : goal.go_up-requires-clause-tagged
go_up-requires-clause-tagged g c =
    let own = subst (λ s. IsOfLevel g.B.Basic.name g.B.Basic.tag c.args.self.now.level c.args.self.now.parents.items (locks_of
    c.args.self.now.nodes.items) (queue_climb g.B.Queue.Queueing.waiting g.H.Queue.Climbing.climb c.args.queue.id.level c.args.queue.id.node
    c.args.queue.id.number s).context) c.in-Low.is c.requires.own in
    let here = ap (λ l. slice_get (locks_of l) c.args.queue.id.node) (sym c.deref.ensures.value) ∙ c.lock_of.ensures in
    c.in-Got.ensures.tagged ∙ sym (pass_of c.requires.sound own c.lock_of.result.now here).tag_is
    ∙ sym (ap (λ p. p.tag) c.in-Got.ensures.held)

pub go_up-requires-clause-share : goal.go_up-requires-clause-share
go_up-requires-clause-share g c =
    let own = subst (λ s. IsOfLevel g.B.Basic.name g.B.Basic.tag c.args.self.now.level c.args.self.now.parents.items (locks_of
    c.args.self.now.nodes.items) (queue_climb g.B.Queue.Queueing.waiting g.H.Queue.Climbing.climb c.args.queue.id.level c.args.queue.id.node
    c.args.queue.id.number s).context) c.in-Low.is c.requires.own in
    let may = subst (λ s. MayTurn (course_of (g.H.Composed.tag c.args.self.now.high)) c.args.self.now.level (queue_climb
    g.B.Queue.Queueing.waiting g.H.Queue.Climbing.climb c.args.queue.id.level c.args.queue.id.node c.args.queue.id.number s).context.number
    c.args.share.now) c.in-Low.is c.requires.share in
    let here = ap (λ l. slice_get (locks_of l) c.args.queue.id.node) (sym c.deref.ensures.value) ∙ c.lock_of.ensures in
    may_go_up c.requires.sound own c.lock_of.result.now here _ _ c.in-Got.ensures.tagged c.args.share.now may

pub poll-requires-in-High-clause-own : goal.poll-requires-in-High-clause-own
poll-requires-in-High-clause-own g c =
    let own = subst (λ s. IsOfLevel g.B.Basic.name g.B.Basic.tag c.args.self.now.level c.args.self.now.parents.items (locks_of
    c.args.self.now.nodes.items) (queue_climb g.B.Queue.Queueing.waiting g.H.Queue.Climbing.climb c.args.queue.id.level c.args.queue.id.node
    c.args.queue.id.number s).context) c.in-High.is c.requires.own in
    let climbs = subst (λ s. IsQueued g.H.Queue.Climbing.climb g.H.Queue.Climbing.climbs c.args.queue.id.level s) c.in-High.is
    c.requires.climbs in
    (high_context c.requires.sound own _ _ climbs.0.tag_same).own

pub poll-requires-in-High-clause-share : goal.poll-requires-in-High-clause-share
poll-requires-in-High-clause-share g c =
    let own = subst (λ s. IsOfLevel g.B.Basic.name g.B.Basic.tag c.args.self.now.level c.args.self.now.parents.items (locks_of
    c.args.self.now.nodes.items) (queue_climb g.B.Queue.Queueing.waiting g.H.Queue.Climbing.climb c.args.queue.id.level c.args.queue.id.node
    c.args.queue.id.number s).context) c.in-High.is c.requires.own in
    let may = subst (λ s. MayTurn (course_of (g.H.Composed.tag c.args.self.now.high)) c.args.self.now.level (queue_climb
    g.B.Queue.Queueing.waiting g.H.Queue.Climbing.climb c.args.queue.id.level c.args.queue.id.node c.args.queue.id.number s).context.number
    c.args.share.now) c.in-High.is c.requires.share in
    let climbs = subst (λ s. IsQueued g.H.Queue.Climbing.climb g.H.Queue.Climbing.climbs c.args.queue.id.level s) c.in-High.is
    c.requires.climbs in
    may_turn_above _ _ _ _ _ _ (above c.requires.sound own) (high_context c.requires.sound own _ _ climbs.0.tag_same).number_is
    (high_may c.requires.sound own _ _ climbs.0.tag_same c.args.share.now may)

pub returns-in-Not-poll-clause-waits : goal.returns-in-Not-poll-clause-waits
returns-in-Not-poll-clause-waits g c =
    subst (λ s. HasClimbed (queue_climb g.B.Queue.Queueing.waiting g.H.Queue.Climbing.climb c.args.queue.id.level c.args.queue.id.node
    c.args.queue.id.number s) (queue_climb g.B.Queue.Queueing.waiting g.H.Queue.Climbing.climb c.args.queue.id.level c.args.queue.id.node
    c.args.queue.id.number (High c.in-High.low c.in-Not-poll.queue))) (sym c.in-High.is) c.in-Not-poll.ensures.waits

pub returns-in-Got-poll-clause-stands : goal.returns-in-Got-poll-clause-stands
returns-in-Got-poll-clause-stands g c =
    let own = subst (λ s. IsOfLevel g.B.Basic.name g.B.Basic.tag c.args.self.now.level c.args.self.now.parents.items (locks_of
    c.args.self.now.nodes.items) (queue_climb g.B.Queue.Queueing.waiting g.H.Queue.Climbing.climb c.args.queue.id.level c.args.queue.id.node
    c.args.queue.id.number s).context) c.in-High.is c.requires.own in
    let climbs = subst (λ s. IsQueued g.H.Queue.Climbing.climb g.H.Queue.Climbing.climbs c.args.queue.id.level s) c.in-High.is
    c.requires.climbs in
    let at = high_context c.requires.sound own _ _ climbs.0.tag_same in
    let anew = holding_anew g.P.Payload.calls g.P.Payload.tag _ _ _ _ _ _ _ (g.H.Held.Standing.stand c.in-Got-poll.held) _ (above
    c.requires.sound own) c.in-Got-poll.ensures.held at.level_is climbs.0.tag_same c.in-Got-poll.ensures.stands
    c.in-Got-poll.ensures.opened in (
      subst (λ v. IsHolding c.args.queue.id.level v.node v.kept c.in-High.low.seat.seat.me.0.tag.tag (IsStanding
          g.H.Held.Standing.stands v.high) (kept_stand g.H.Held.Standing.stand v.high)) (sym c.keep_high.ensures) anew,
      climbs.1,
    )

pub returns-in-Not-clause-queue : goal.returns-in-Not-clause-queue
returns-in-Not-clause-queue g c =
    ap (level_context c.args.queue.id.level c.args.queue.id.node c.args.queue.id.number) c.in-Not.ensures.queue
    ∙ ap (λ s. (queue_climb g.B.Queue.Queueing.waiting g.H.Queue.Climbing.climb c.args.queue.id.level
    c.args.queue.id.node c.args.queue.id.number s).context) (sym c.in-Low.is)

pub returns-in-Not-clause-waits : goal.returns-in-Not-clause-waits
returns-in-Not-clause-waits g c =
    subst (λ s. HasClimbed (queue_climb g.B.Queue.Queueing.waiting g.H.Queue.Climbing.climb c.args.queue.id.level c.args.queue.id.node
    c.args.queue.id.number s) (record {
      context = level_context c.args.queue.id.level c.args.queue.id.node c.args.queue.id.number (g.B.Queue.Queueing.waiting
          c.in-Not.low).place;
      level = c.args.queue.id.level;
      entries = (g.B.Queue.Queueing.waiting c.in-Not.low).entries;
      loads = (g.B.Queue.Queueing.waiting c.in-Not.low).loads;
      ready = (g.B.Queue.Queueing.waiting c.in-Not.low).ready;
    })) (sym c.in-Low.is)
    (inr (refl, c.in-Not.ensures.loaded, c.in-Not.ensures.unready))

pub returns-in-Got-clause-queue : goal.returns-in-Got-clause-queue
returns-in-Got-clause-queue g c =
    subst (λ x. IfNot c.go_up.result (λ q. (level_climb g.B.Queue.Queueing.waiting g.H.Queue.Climbing.climb q).context ≡ x))
    (ap (level_context c.args.queue.id.level c.args.queue.id.node c.args.queue.id.number) c.in-Got.ensures.held
    ∙ ap (λ s. (queue_climb g.B.Queue.Queueing.waiting g.H.Queue.Climbing.climb c.args.queue.id.level
    c.args.queue.id.node c.args.queue.id.number s).context) (sym c.in-Low.is)) c.go_up.ensures.queue

pub returns-in-Got-clause-climbs : goal.returns-in-Got-clause-climbs
returns-in-Got-clause-climbs g c = c.go_up.ensures.climbs

pub returns-in-Got-clause-waits : goal.returns-in-Got-clause-waits
returns-in-Got-clause-waits g c =
    let old : Climb = record {
      context = level_context c.args.queue.id.level c.args.queue.id.node c.args.queue.id.number (g.B.Queue.Queueing.waiting
          c.in-Low.low).place;
      level = c.args.queue.id.level;
      entries = (g.B.Queue.Queueing.waiting c.in-Low.low).entries;
      loads = (g.B.Queue.Queueing.waiting c.in-Low.low).loads;
      ready = (g.B.Queue.Queueing.waiting c.in-Low.low).ready;
    } in
    subst (λ s. IfNot c.go_up.result (λ q. HasClimbed (queue_climb g.B.Queue.Queueing.waiting g.H.Queue.Climbing.climb
    c.args.queue.id.level c.args.queue.id.node c.args.queue.id.number s) (level_climb g.B.Queue.Queueing.waiting
    g.H.Queue.Climbing.climb q))) (sym c.in-Low.is)
    (climbed_above (level_climb g.B.Queue.Queueing.waiting g.H.Queue.Climbing.climb) c.args.queue.id.level
    c.args.queue.id.level refl old refl c.go_up.result c.go_up.ensures.above c.go_up.ensures.entered)

pub returns-in-Got-clause-not_made : goal.returns-in-Got-clause-not_made
returns-in-Got-clause-not_made g c = c.go_up.ensures.not_made

pub returns-in-Got-clause-held : goal.returns-in-Got-clause-held
returns-in-Got-clause-held g c =
    subst (λ x. IfGot c.go_up.result (λ h. (level_stand g.H.Held.Standing.stand h).context ≡ x))
    (ap (level_context c.args.queue.id.level c.args.queue.id.node c.args.queue.id.number) c.in-Got.ensures.held
    ∙ ap (λ s. (queue_climb g.B.Queue.Queueing.waiting g.H.Queue.Climbing.climb c.args.queue.id.level
    c.args.queue.id.node c.args.queue.id.number s).context) (sym c.in-Low.is)) c.go_up.ensures.held

pub returns-in-Got-clause-stands : goal.returns-in-Got-clause-stands
returns-in-Got-clause-stands g c = c.go_up.ensures.stands

pub returns-in-Got-clause-made : goal.returns-in-Got-clause-made
returns-in-Got-clause-made g c = c.go_up.ensures.made

pub returns-in-Got-clause-opened : goal.returns-in-Got-clause-opened
returns-in-Got-clause-opened g c =
    let own = subst (λ s. IsOfLevel g.B.Basic.name g.B.Basic.tag c.args.self.now.level c.args.self.now.parents.items (locks_of
    c.args.self.now.nodes.items) (queue_climb g.B.Queue.Queueing.waiting g.H.Queue.Climbing.climb c.args.queue.id.level c.args.queue.id.node
    c.args.queue.id.number s).context) c.in-Low.is c.requires.own in
    subst (λ n. IfGot c.go_up.result (λ h. IsSomeAnd (kept_stand g.H.Held.Standing.stand h.low.value.high).root (HasOpened
    g.P.Payload.calls g.P.Payload.tag (g.H.Composed.tag c.args.self.now.high) n c.go_up.new.share)))
    (level_same c.requires.sound own) c.go_up.ensures.opened

pub returns-in-Not-poll-clause-queue : goal.returns-in-Not-poll-clause-queue
returns-in-Not-poll-clause-queue g c = ap (λ s. (queue_climb g.B.Queue.Queueing.waiting g.H.Queue.Climbing.climb c.args.queue.id.level
    c.args.queue.id.node c.args.queue.id.number s).context) (sym c.in-High.is)

pub returns-in-Not-poll-clause-climbs : goal.returns-in-Not-poll-clause-climbs
returns-in-Not-poll-clause-climbs g c =
    let climbs = subst (λ s. IsQueued g.H.Queue.Climbing.climb g.H.Queue.Climbing.climbs c.args.queue.id.level s) c.in-High.is
    c.requires.climbs in (
      climbing_on _ _ _ _ _ _ _ climbs.0 c.in-Not-poll.ensures.queue c.in-Not-poll.ensures.waits c.in-Not-poll.ensures.climbs,
      climbs.1,
    )

pub returns-in-Got-poll-clause-held : goal.returns-in-Got-poll-clause-held
returns-in-Got-poll-clause-held g c = ap (λ s. (queue_climb g.B.Queue.Queueing.waiting g.H.Queue.Climbing.climb c.args.queue.id.level
    c.args.queue.id.node c.args.queue.id.number s).context) (sym c.in-High.is)
