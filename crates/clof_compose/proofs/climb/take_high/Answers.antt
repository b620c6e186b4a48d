use Rattle.std.proofs.Common.{ap, sym, ◌∙◌, subst}
use Rattle.lock_rules.specs.Holders.{held_view}
use Rattle.clof_compose.specs.Levels.{IsHolding, IsStanding, kept_stand}
use Rattle.clof_compose.specs.Owns.{context_in}
use Rattle.clof_compose.proofs.Owned.{holding_anew}
use Rattle.clof_compose.proofs.climb.take_high.Goals as goal

pub returns-in-Got-clause-holds : goal.returns-in-Got-clause-holds
returns-in-Got-clause-holds g c =
    let same = sym (ap (context_in g.H.Pass.Resting.rest g.H.Held.Standing.stand) c.in-Some.ensures.pass) in
    let anew = holding_anew g.P.Payload.calls g.P.Payload.tag _ _ _ c.args.low.value.node _ _ _ (g.H.Held.Standing.stand c.in-Got.held) _
    c.requires.above (c.in-Got.ensures.held ∙ same) c.requires.context.level_is c.requires.tagged c.in-Got.ensures.stands
    c.in-Got.ensures.opened in
    let there = subst (λ n. IsHolding c.args.level n 0 (held_view c.args.low).tag.tag (g.H.Held.Standing.stands c.in-Got.held)
    (g.H.Held.Standing.stand c.in-Got.held)) (sym (ap (λ o. o.node) c.in-Some.ensures.away)) anew in
    subst (λ v. IsHolding c.args.level v.node v.kept (held_view c.args.low).tag.tag (IsStanding g.H.Held.Standing.stands v.high)
    (kept_stand g.H.Held.Standing.stand v.high)) (sym c.keep_high.ensures) there
