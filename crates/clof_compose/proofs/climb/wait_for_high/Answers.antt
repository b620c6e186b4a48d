use Rattle.std.proofs.Common.{ap, refl, sym, ◌∙◌, subst}
use Rattle.clof_compose.specs.Levels.{IsHolding, IsStanding, kept_stand}
use Rattle.clof_compose.specs.Owns.{context_in, own_tag_of}
use Rattle.clof_compose.proofs.Owned.{holding_anew}
use Rattle.clof_compose.proofs.climb.wait_for_high.Goals as goal

pub returns-in-Some-clause-holds : goal.returns-in-Some-clause-holds
returns-in-Some-clause-holds g c =
    let same = sym (ap (context_in g.H.Pass.Resting.rest g.H.Held.Standing.stand) c.in-Some.ensures.pass) in
    let anew = holding_anew g.P.Payload.calls g.P.Payload.tag _ _ _ c.args.own.now.node _ _ _ (g.H.Held.Standing.stand
    c.acquire-held.result) _ c.requires.above (c.acquire-held.ensures.held ∙ same) c.requires.context.level_is refl
    c.acquire-held.ensures.stands c.acquire-held.ensures.opened in
    let there = subst (λ n. IsHolding c.args.level n 0 (own_tag_of g.H.Pass.Resting.rest g.H.Held.Standing.stand c.args.own.now.node
    c.args.own.now.high) (g.H.Held.Standing.stands c.acquire-held.result) (g.H.Held.Standing.stand c.acquire-held.result)) (sym (ap (λ o.
    o.node) c.in-Some.ensures.away)) anew in
    subst (λ v. IsHolding c.args.level v.node v.kept (own_tag_of g.H.Pass.Resting.rest g.H.Held.Standing.stand c.args.own.now.node
    c.args.own.now.high) (IsStanding g.H.Held.Standing.stands v.high) (kept_stand g.H.Held.Standing.stand v.high))
    (sym c.keep_high.ensures) there
