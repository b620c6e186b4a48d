use Rattle.level_laws.proofs.Users.{holders_have, no_user_of_home, one_user}
use Rattle.level_laws.proofs.one_user_of_a_context.Goals as goal

pub returns-clause-user : goal.returns-clause-user
returns-clause-user g c = λ level holds.
    one_user g.P.Payload.calls g.P.Payload.tag g.H.Pass.Resting.rest g.H.Held.Standing.stand g.H.Held.Standing.stands
    g.H.Queue.Climbing.climb g.H.Queue.Climbing.climbs g.H.Leave.Descending.descent g.H.Leave.Descending.descends g.B.Basic.name
    g.B.Basic.tag g.B.Basic.count (g.H.Composed.has c.args._high.now) (g.H.Composed.level c.args._high.now)
    (g.H.Composed.tag c.args._high.now) level holds

pub returns-clause-home : goal.returns-clause-home
returns-clause-home g c = λ level holds.
    no_user_of_home g.P.Payload.calls g.P.Payload.tag g.H.Pass.Resting.rest g.H.Held.Standing.stand g.H.Held.Standing.stands
    g.H.Queue.Climbing.climb g.H.Queue.Climbing.climbs g.H.Leave.Descending.descent g.H.Leave.Descending.descends g.B.Basic.name
    g.B.Basic.tag g.B.Basic.count (g.H.Composed.has c.args._high.now) (g.H.Composed.level c.args._high.now)
    (g.H.Composed.tag c.args._high.now) level holds

pub returns-clause-holders : goal.returns-clause-holders
returns-clause-holders g c =
    holders_have _ _ g.H.Pass.Resting.rest g.H.Held.Standing.stand g.H.Held.Standing.stands g.H.Queue.Climbing.climb
    g.H.Queue.Climbing.climbs g.H.Leave.Descending.descent g.H.Leave.Descending.descends
