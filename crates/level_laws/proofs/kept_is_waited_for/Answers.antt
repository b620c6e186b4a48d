use Rattle.clof_compose.specs.Owns.{IsOwnFit, is_kept, own_tag_of}
use Rattle.level_laws.proofs.Holders.{parked_is_waited_for}
use Rattle.level_laws.proofs.kept_is_waited_for.Goals as goal

pub returns : goal.returns
returns g c = λ holds ch n tag queue s x rule home is.
    parked_is_waited_for (λ o. IsOwnFit g.Pass.Resting.rest g.Held.Standing.stand g.P.Payload.calls g.P.Payload.tag g.Held.Standing.stands
    o.node o.kept o.said o.high) (λ o. own_tag_of g.Pass.Resting.rest g.Held.Standing.stand o.node o.high)
    (λ o. is_kept g.Pass.Resting.rest g.Held.Standing.stand o.high) holds ch n tag queue s x rule home is
