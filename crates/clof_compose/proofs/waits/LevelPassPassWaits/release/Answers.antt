use Rattle.std.proofs.Common.{◌≡◌, ◌<◌, length, ap, sym, ◌∙◌, subst}
use Rattle.std.specs.Prelude.{slice_get, IfSome, IsSomeAnd}
use Rattle.lock_rules.specs.Passes.{IsOf}
use Rattle.keep_local.specs.Turns.{run}
use Rattle.clof_compose.specs.Contexts.{own_tag}
use Rattle.clof_compose.specs.Levels.{kept_stand}
use Rattle.clof_compose.specs.Nodes.{IsContextOfNode, locks_of}
use Rattle.clof_compose.specs.Releases.{IsReleasing}
use Rattle.clof_compose.proofs.Closes.{closes_at}
use Rattle.clof_compose.proofs.Nodes.{and_weaker, level_same, node_context, node_within, pass_of, releasing}
use Rattle.clof_compose.proofs.waits.LevelPassPassWaits.release.Goals as goal

pub lock_of-lock-requires : goal.lock_of-lock-requires
lock_of-lock-requires g c = subst (λ l. c.args.held.id.node < length l) (sym c.deref.ensures.value) (node_within c.requires.sound
    c.requires.own)

pub waiter-low-requires : goal.waiter-low-requires
waiter-low-requires g c =
    let here = ap (λ l. slice_get (locks_of l) c.args.held.id.node) (sym c.deref.ensures.value) ∙ c.lock_of-lock.ensures in
    record { own = pass_of c.requires.sound c.requires.own c.lock_of-lock.result.now here }

pub let_go_and_wait-report-requires-clause-context : goal.let_go_and_wait-report-requires-clause-context
let_go_and_wait-report-requires-clause-context g c =
    let here = ap (λ l. slice_get (locks_of l) c.args.held.id.node) (sym c.deref.ensures.value) ∙ c.lock_of-lock.ensures in
    let told = c.requires.stands.0.tag_same ∙ (pass_of c.requires.sound c.requires.own c.lock_of-lock.result.now here).tag_is in
    subst (λ v. IsContextOfNode (g.H.Composed.has c.args.self.now.high) c.args.held.id.level (g.H.Composed.tag c.args.self.now.high)
    v.node (kept_stand g.H.Held.Standing.stand v.high).context) (sym c.waiter-low.ensures.value)
    (node_context c.requires.sound c.requires.own c.lock_of-lock.result.now here _ _ told)

pub let_go_and_wait-report-requires-clause-kept : goal.let_go_and_wait-report-requires-clause-kept
let_go_and_wait-report-requires-clause-kept g c =
    subst (λ v. IfSome (kept_stand g.H.Held.Standing.stand v.high).root (λ r. v.kept ≡ run c.args.held.id.level r.trail.closed)) (sym
    c.waiter-low.ensures.value) c.requires.stands.0.kept_is

pub let_go_and_wait-report-requires-clause-root : goal.let_go_and_wait-report-requires-clause-root
let_go_and_wait-report-requires-clause-root g c =
    let here = ap (λ l. slice_get (locks_of l) c.args.held.id.node) (sym c.deref.ensures.value) ∙ c.lock_of-lock.ensures in
    let told = c.requires.stands.0.tag_same ∙ (pass_of c.requires.sound c.requires.own c.lock_of-lock.result.now here).tag_is in
    subst (λ v. IsSomeAnd (kept_stand g.H.Held.Standing.stand v.high).root (IsReleasing g.P.Payload.calls g.P.Payload.tag
    (g.H.Composed.tag c.args.self.now.high) c.args.held.id.level c.args.self.now.keep v.node)) (sym c.waiter-low.ensures.value)
    (and_weaker _ _ _ (λ r may. releasing c.requires.sound c.requires.own c.lock_of-lock.result.now here _ _ told g.P.Payload.calls
    g.P.Payload.tag r may) c.requires.root)

pub release-low-requires-clause-own : goal.release-low-requires-clause-own
release-low-requires-clause-own g c =
    let here = ap (λ l. slice_get (locks_of l) c.args.held.id.node) (sym c.deref.ensures.value) ∙ c.lock_of-lock.ensures in
    subst (λ p. IsOf (g.B.Basic.name c.lock_of-lock.result.now) (g.B.Basic.tag c.lock_of-lock.result.now) p)
    (sym c.waiter-low.ensures.place)
    (pass_of c.requires.sound c.requires.own c.lock_of-lock.result.now here)

pub release-low-requires-clause-tagged : goal.release-low-requires-clause-tagged
release-low-requires-clause-tagged g c =
    let here = ap (λ l. slice_get (locks_of l) c.args.held.id.node) (sym c.deref.ensures.value) ∙ c.lock_of-lock.ensures in
    c.let_go_and_wait-report.ensures.tagged
    ∙ ap (λ v. own_tag v.node (kept_stand g.H.Held.Standing.stand v.high).context) c.waiter-low.ensures.value
    ∙ c.requires.stands.0.tag_same ∙ (pass_of c.requires.sound c.requires.own c.lock_of-lock.result.now here).tag_is

pub returns-clause-tests : goal.returns-clause-tests
returns-clause-tests g c =
    closes_at _ _ c.let_go_and_wait-report.result _ _ (ap (λ v. (kept_stand g.H.Held.Standing.stand v.high).root)
    c.waiter-low.ensures.value) (level_same c.requires.sound c.requires.own) c.let_go_and_wait-report.ensures.tests
