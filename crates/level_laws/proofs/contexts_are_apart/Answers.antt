use Rattle.level_laws.proofs.Holders.{apart}
use Rattle.level_laws.proofs.contexts_are_apart.Goals as goal

pub returns : goal.returns
returns g c = apart g.H.Pass.Resting.rest g.H.Held.Standing.stand g.B.Basic.tag (g.H.Composed.has c.args._high.now)
    (g.H.Composed.level c.args._high.now) (g.H.Composed.tag c.args._high.now)
