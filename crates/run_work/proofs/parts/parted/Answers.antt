use Rattle.cohort_runner.proofs.Sitting.{may_sit}
use Rattle.run_work.proofs.parts.parted.Goals as goal

pub returns-clause-may : goal.returns-clause-may
returns-clause-may g c =
    may_sit g.C.Pass.Resting.rest (g.C.Composed.has c.args._lock.now) (g.C.Composed.level c.args._lock.now)
    (g.C.Composed.count c.args._lock.now) (g.C.Composed.tag c.args._lock.now) c.args.run c.requires.opened
    (g.C.Composed.sound c.args._lock.now) c.requires.sound c.requires.lowest
