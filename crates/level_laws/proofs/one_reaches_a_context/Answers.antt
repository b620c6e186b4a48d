use Rattle.level_laws.proofs.Reach.{one_reaches}
use Rattle.level_laws.proofs.one_reaches_a_context.Goals as goal

pub returns : goal.returns
returns g c = λ level holds.
    one_reaches g.P.Payload.calls g.P.Payload.tag g.H.Pass.Resting.rest g.H.Held.Standing.stand g.H.Held.Standing.stands g.B.Basic.name
    g.B.Basic.tag g.B.Basic.count (g.H.Composed.has c.args._high.now) (g.H.Composed.level c.args._high.now)
    (g.H.Composed.tag c.args._high.now) level holds
