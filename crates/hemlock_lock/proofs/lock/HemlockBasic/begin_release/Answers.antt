use Rattle.std.proofs.Common.{[], ◌∷◌, Some, ap, sym, ◌∙◌, subst}
use Rattle.lock_rules.specs.Holders.{held_view}
use Rattle.lock_rules.specs.Views.{IsPlain}
use Rattle.lock_tables.specs.Happened.{missed_view}
use Rattle.hemlock_lock.specs.Kinds.{own_name}
use Rattle.hemlock_lock.proofs.Tokens.{granted_is, waited_is, waited_plain}
use Rattle.hemlock_lock.proofs.lock.HemlockBasic.begin_release.Goals as goal

pub leave_of-requires-clause-plain : goal.leave_of-requires-clause-plain
leave_of-requires-clause-plain g c =
    let parts = c.held_parts-seat.ensures in
    let name = c.name_of-own.ensures.name ∙ ap (λ s. own_name s.me.0) parts.seat in
    let before = ap (λ s. s.me) c.put.ensures.seat ∙ (λ i. ((parts.seat i).me.0, (0, Some (parts.value i)) ∷ [])) in
    let given = granted_is g.V.Cargo.fit g.V.Cargo.tag g.V.Cargo.parked c.args.held _ _ _ _ _ _ before name c.if-found-own.false
    c.compare_exchange-found.ensures.step c.store.ensures.step.2 in
    let view = ap (λ m. m.0) (c.load.ensures.step.1 c.if-load-ne0.true).0 ∙ ap (λ m. missed_view m.0) given.1 in
    subst IsPlain (sym view) (waited_plain (held_view c.args.held) c.args.held.seat.plain)

pub returns-then-load-ne0-clause-began_to_leave : goal.returns-then-load-ne0-clause-began_to_leave
returns-then-load-ne0-clause-began_to_leave g c =
    let parts = c.held_parts-seat.ensures in
    let name = c.name_of-own.ensures.name ∙ ap (λ s. own_name s.me.0) parts.seat in
    let before = ap (λ s. s.me) c.put.ensures.seat ∙ (λ i. ((parts.seat i).me.0, (0, Some (parts.value i)) ∷ [])) in
    let given = granted_is g.V.Cargo.fit g.V.Cargo.tag g.V.Cargo.parked c.args.held _ _ _ _ _ _ before name c.if-found-own.false
    c.compare_exchange-found.ensures.step c.store.ensures.step.2 in (
      given.0,
      waited_is g.V.Cargo.fit g.V.Cargo.tag g.V.Cargo.parked _ c.leave_of.result.seat.me _ _ _ given.1 c.if-load-ne0.true
          c.load.ensures.step (ap (λ s. s.me) c.leave_of.ensures.seat),
    )
