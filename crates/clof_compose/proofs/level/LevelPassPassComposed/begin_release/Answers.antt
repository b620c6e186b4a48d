use Rattle.std.proofs.Common.{◌≡◌, ◌+◌, ◌<◌, length, ap, sym, ◌∙◌, subst}
use Rattle.std.specs.Prelude.{slice_get, IfSome, IsSomeAnd}
use Rattle.lock_rules.specs.Holders.{holder_of}
use Rattle.lock_rules.specs.Passes.{IsOf}
use Rattle.lock_rules.specs.Views.{place_of}
use Rattle.keep_local.specs.Turns.{run}
use Rattle.clof_compose.specs.Contexts.{own_tag}
use Rattle.clof_compose.specs.Levels.{kept_stand}
use Rattle.clof_compose.specs.Nodes.{IsContextOfNode, locks_of}
use Rattle.clof_compose.specs.Releases.{IsReleasing}
use Rattle.clof_compose.proofs.Closes.{closes_at}
use Rattle.clof_compose.proofs.Leaving.{begun_above, begun_here}
use Rattle.clof_compose.proofs.Nodes.{and_weaker, level_below, level_same, node_context, node_within, pass_of, releasing}
use Rattle.clof_compose.proofs.level.LevelPassPassComposed.begin_release.Goals as goal

pub lock_of-lock-requires : goal.lock_of-lock-requires
lock_of-lock-requires g c = subst (λ l. c.args.held.id.node < length l) (sym c.deref.ensures.value) (node_within c.requires.sound
    c.requires.own)

pub waiter-low-requires : goal.waiter-low-requires
waiter-low-requires g c =
    let here = ap (λ l. slice_get (locks_of l) c.args.held.id.node) (sym c.deref.ensures.value) ∙ c.lock_of-lock.ensures in
    record { own = pass_of c.requires.sound c.requires.own c.lock_of-lock.result.now here }

pub let_go-requires-clause-context : goal.let_go-requires-clause-context
let_go-requires-clause-context g c =
    let here = ap (λ l. slice_get (locks_of l) c.args.held.id.node) (sym c.deref.ensures.value) ∙ c.lock_of-lock.ensures in
    let told = c.requires.stands.0.tag_same ∙ (pass_of c.requires.sound c.requires.own c.lock_of-lock.result.now here).tag_is in
    subst (λ v. IsContextOfNode (g.H.Composed.has c.args.self.now.high) c.args.held.id.level (g.H.Composed.tag c.args.self.now.high)
    v.node (kept_stand g.H.Held.Standing.stand v.high).context) (sym c.waiter-low.ensures.value)
    (node_context c.requires.sound c.requires.own c.lock_of-lock.result.now here _ _ told)

pub let_go-requires-clause-kept : goal.let_go-requires-clause-kept
let_go-requires-clause-kept g c =
    subst (λ v. IfSome (kept_stand g.H.Held.Standing.stand v.high).root (λ r. v.kept ≡ run c.args.held.id.level r.trail.closed)) (sym
    c.waiter-low.ensures.value) c.requires.stands.0.kept_is

pub let_go-requires-clause-root : goal.let_go-requires-clause-root
let_go-requires-clause-root g c =
    let here = ap (λ l. slice_get (locks_of l) c.args.held.id.node) (sym c.deref.ensures.value) ∙ c.lock_of-lock.ensures in
    let told = c.requires.stands.0.tag_same ∙ (pass_of c.requires.sound c.requires.own c.lock_of-lock.result.now here).tag_is in
    subst (λ v. IsSomeAnd (kept_stand g.H.Held.Standing.stand v.high).root (IsReleasing g.P.Payload.calls g.P.Payload.tag
    (g.H.Composed.tag c.args.self.now.high) c.args.held.id.level c.args.self.now.keep v.node)) (sym c.waiter-low.ensures.value)
    (and_weaker _ _ _ (λ r may. releasing c.requires.sound c.requires.own c.lock_of-lock.result.now here _ _ told g.P.Payload.calls
    g.P.Payload.tag r may) c.requires.root)

pub begin_release-requires-clause-own : goal.begin_release-requires-clause-own
begin_release-requires-clause-own g c =
    let here = ap (λ l. slice_get (locks_of l) c.args.held.id.node) (sym c.deref.ensures.value) ∙ c.lock_of-lock.ensures in
    subst (λ p. IsOf (g.B.Basic.name c.lock_of-lock.result.now) (g.B.Basic.tag c.lock_of-lock.result.now) p)
    (sym (ap (λ s. place_of s.seat.table_id s.seat.me.0) c.in-Got.ensures.same_seat ∙ c.waiter-low.ensures.place))
    (pass_of c.requires.sound c.requires.own c.lock_of-lock.result.now here)

pub begin_release-requires-clause-tagged : goal.begin_release-requires-clause-tagged
begin_release-requires-clause-tagged g c =
    let here = ap (λ l. slice_get (locks_of l) c.args.held.id.node) (sym c.deref.ensures.value) ∙ c.lock_of-lock.ensures in
    c.in-Got.ensures.tagged ∙ ap (λ v. own_tag v.node (kept_stand g.H.Held.Standing.stand v.high).context) c.waiter-low.ensures.value
    ∙ c.requires.stands.0.tag_same ∙ (pass_of c.requires.sound c.requires.own c.lock_of-lock.result.now here).tag_is

pub returns-in-Not-clause-noted : goal.returns-in-Not-clause-noted
returns-in-Not-clause-noted g c =
    closes_at _ _ (g.H.Leave.Descending.descent c.in-Not.leave).report _ _
    (ap (λ v. (kept_stand g.H.Held.Standing.stand v.high).root) c.waiter-low.ensures.value)
    (level_same c.requires.sound c.requires.own) c.in-Not.ensures.noted

pub returns-in-Not-begin_release-clause-noted : goal.returns-in-Not-begin_release-clause-noted
returns-in-Not-begin_release-clause-noted g c =
    closes_at _ _ c.in-Got.report _ _ (ap (λ v. (kept_stand g.H.Held.Standing.stand v.high).root) c.waiter-low.ensures.value)
    (level_same c.requires.sound c.requires.own) c.in-Got.ensures.tests

pub returns-in-Got-begin_release-clause-tests : goal.returns-in-Got-begin_release-clause-tests
returns-in-Got-begin_release-clause-tests g c =
    closes_at _ _ c.in-Got.report _ _ (ap (λ v. (kept_stand g.H.Held.Standing.stand v.high).root) c.waiter-low.ensures.value)
    (level_same c.requires.sound c.requires.own) c.in-Got.ensures.tests

pub returns-in-Not-clause-waits : goal.returns-in-Not-clause-waits
returns-in-Not-clause-waits g c =
    begun_above _ c.args.held.id.level (holder_of c.args.held.low).loads _ _ (g.H.Leave.Descending.descent c.in-Not.leave) _
    (ap (λ v. (kept_stand g.H.Held.Standing.stand v.high).loads) c.waiter-low.ensures.value) c.in-Not.ensures.descends.above
    c.in-Not.ensures.waits

pub returns-in-Not-begin_release-clause-waits : goal.returns-in-Not-begin_release-clause-waits
returns-in-Not-begin_release-clause-waits g c =
    let loaded = c.in-Not-begin_release.ensures.loaded in
    let asked = c.waiter-low.ensures.loaded in
    let same = ap (λ s. s.seat.me.0.loads) c.in-Got.ensures.same_seat in
    begun_here _ (holder_of c.args.held.low).loads _ _ (level_below c.requires.sound c.requires.own)
    (loaded ∙ ap (λ n. n + 1) (same ∙ asked)) c.in-Not-begin_release.ensures.unready
