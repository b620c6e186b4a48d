use Rattle.cpu_set.proofs.SetSteps.{Decides-shifted, Decides-past, IsSet-view}
use Rattle.cpu_set.proofs.set.CpuSet.has.Goals as goal

pub returns-then-number-lt-LIMIT-clause-found : goal.returns-then-number-lt-LIMIT-clause-found
returns-then-number-lt-LIMIT-clause-found c =
    Decides-shifted c.self.inside.words c.args.self.now c.args.number c.self.view_is c.if-number-lt-LIMIT.true

pub returns-then-number-lt-LIMIT-clause-set : goal.returns-then-number-lt-LIMIT-clause-set
returns-then-number-lt-LIMIT-clause-set c = IsSet-view c.self.inside.words c.args.self.now c.self.view_is

pub returns-else-number-lt-LIMIT-clause-found : goal.returns-else-number-lt-LIMIT-clause-found
returns-else-number-lt-LIMIT-clause-found c =
    Decides-past c.args.self.now c.args.number (IsSet-view c.self.inside.words c.args.self.now c.self.view_is) c.if-number-lt-LIMIT.false

pub returns-else-number-lt-LIMIT-clause-set : goal.returns-else-number-lt-LIMIT-clause-set
returns-else-number-lt-LIMIT-clause-set c = IsSet-view c.self.inside.words c.args.self.now c.self.view_is
