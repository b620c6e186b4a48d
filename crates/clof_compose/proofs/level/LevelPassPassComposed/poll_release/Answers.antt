use Rattle.std.proofs.Common.{◌<◌, length, ap, sym, ◌∙◌, subst}
use Rattle.std.specs.Prelude.{slice_get}
use Rattle.std.specs.Int.{bit_at}
use Rattle.clof_compose.specs.Contexts.{own_tag}
use Rattle.clof_compose.specs.Nodes.{IsOfLevel, locks_of}
use Rattle.clof_compose.specs.Owns.{IsOwnFit, own_tag_of}
use Rattle.clof_compose.specs.Stages.{leave_descent, IsLeaving}
use Rattle.clof_compose.proofs.Nodes.{high_context, node_within, pass_of}
use Rattle.clof_compose.proofs.Stages.{leave_node}
use Rattle.clof_compose.proofs.level.LevelPassPassComposed.poll_release.Goals as goal

pub lock_of-lock-requires : goal.lock_of-lock-requires
lock_of-lock-requires g c =
    let within = node_within c.requires.sound c.requires.own in
    subst (λ l. c.args.leave.id.node < length l) (sym c.deref.ensures.value) (subst (λ n. n < length c.args.self.now.nodes.items)
    (leave_node g.B.Leave.Departing.waiting g.H.Leave.Descending.descent _ _ _ c.args.leave.stage) within)

pub poll_release-requires-in-High-clause-own : goal.poll_release-requires-in-High-clause-own
poll_release-requires-in-High-clause-own g c =
    let own = subst (λ s. IsOfLevel g.B.Basic.name g.B.Basic.tag c.args.self.now.level c.args.self.now.parents.items (locks_of
    c.args.self.now.nodes.items) (leave_descent g.B.Leave.Departing.waiting g.H.Leave.Descending.descent c.args.leave.id.level
    c.args.leave.id.node c.args.leave.id.number s).context) c.in-High.is c.requires.own in
    let owes = subst (λ s. IsLeaving g.B.Leave.Departing.rests g.H.Leave.Descending.descent g.H.Leave.Descending.descends
    c.args.leave.id.level s) c.in-High.is c.requires.descends in
    (high_context c.requires.sound own _ _ owes.0.tag_same).own

pub begin_release-requires-clause-own : goal.begin_release-requires-clause-own
begin_release-requires-clause-own g c =
    let own = subst (λ s. IsOfLevel g.B.Basic.name g.B.Basic.tag c.args.self.now.level c.args.self.now.parents.items (locks_of
    c.args.self.now.nodes.items) (leave_descent g.B.Leave.Departing.waiting g.H.Leave.Descending.descent c.args.leave.id.level
    c.args.leave.id.node c.args.leave.id.number s).context) c.in-High.is c.requires.own in
    let here = ap (λ l. slice_get (locks_of l) c.args.leave.id.node) (sym c.deref.ensures.value) ∙ c.lock_of-lock.ensures in
    pass_of c.requires.sound own c.lock_of-lock.result.now here

pub begin_release-requires-clause-fit : goal.begin_release-requires-clause-fit
begin_release-requires-clause-fit g c =
    let own = subst (λ s. IsOfLevel g.B.Basic.name g.B.Basic.tag c.args.self.now.level c.args.self.now.parents.items (locks_of
    c.args.self.now.nodes.items) (leave_descent g.B.Leave.Departing.waiting g.H.Leave.Descending.descent c.args.leave.id.level
    c.args.leave.id.node c.args.leave.id.number s).context) c.in-High.is c.requires.own in
    let owes = subst (λ s. IsLeaving g.B.Leave.Departing.rests g.H.Leave.Descending.descent g.H.Leave.Descending.descends
    c.args.leave.id.level s) c.in-High.is c.requires.descends in
    let at = high_context c.requires.sound own _ _ owes.0.tag_same in
    let idle = c.put_back-report.ensures.idle in
    let told = c.put_back-report.ensures.report ∙ c.in-Got.ensures.tests in
    subst (λ v. IsOwnFit g.H.Pass.Resting.rest g.H.Held.Standing.stand g.P.Payload.calls g.P.Payload.tag g.H.Held.Standing.stands v.node
    v.kept v.said v.high) (sym idle.value_is) (record {
      level = c.args.leave.id.level;
      above = ap (λ x. x.level) (idle.context_is ∙ c.in-Got.ensures.pass) ∙ at.level_is;
      number_is = ap (λ x. x.number) (idle.context_is ∙ c.in-Got.ensures.pass) ∙ at.number_is;
      said_is = ap (λ n. bit_at n c.args.leave.id.level) (idle.tests_is ∙ ap (λ r. r.tests) told) ∙ owes.0.said_is;
    })

pub begin_release-requires-clause-tagged : goal.begin_release-requires-clause-tagged
begin_release-requires-clause-tagged g c =
    let own = subst (λ s. IsOfLevel g.B.Basic.name g.B.Basic.tag c.args.self.now.level c.args.self.now.parents.items (locks_of
    c.args.self.now.nodes.items) (leave_descent g.B.Leave.Departing.waiting g.H.Leave.Descending.descent c.args.leave.id.level
    c.args.leave.id.node c.args.leave.id.number s).context) c.in-High.is c.requires.own in
    let owes = subst (λ s. IsLeaving g.B.Leave.Departing.rests g.H.Leave.Descending.descent g.H.Leave.Descending.descends
    c.args.leave.id.level s) c.in-High.is c.requires.descends in
    let here = ap (λ l. slice_get (locks_of l) c.args.leave.id.node) (sym c.deref.ensures.value) ∙ c.lock_of-lock.ensures in
    ap (λ v. own_tag_of g.H.Pass.Resting.rest g.H.Held.Standing.stand v.node v.high) c.put_back-report.ensures.idle.value_is
    ∙ ap (own_tag c.in-High.low.value.node) (c.put_back-report.ensures.idle.context_is ∙ c.in-Got.ensures.pass) ∙ owes.0.tag_same
    ∙ (pass_of c.requires.sound own c.lock_of-lock.result.now here).tag_is
