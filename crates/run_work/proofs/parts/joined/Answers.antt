use Rattle.cohort_runner.proofs.Sitting.{still_open}
use Rattle.cohort_runner.specs.Runs.{run_of}
use Rattle.run_work.proofs.parts.joined.Goals as goal

pub returns : goal.returns
returns g c =
    still_open g.C.Pass.Resting.rest (g.C.Composed.has c.args._lock.now) (g.C.Composed.level c.args._lock.now)
    (g.C.Composed.count c.args._lock.now) (g.C.Composed.tag c.args._lock.now)
    (run_of c.args.floor c.requires.opened.before c.args.aside) c.requires.opened.open_is c.args.desks c.requires.opened.many
    c.requires.opened.each
