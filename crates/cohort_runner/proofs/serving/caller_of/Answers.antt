use Rattle.cohort_runner.specs.Rolls.{contexts_of}
use Rattle.cohort_runner.proofs.Rolls.{caller_is}
use Rattle.cohort_runner.proofs.serving.caller_of.Goals as goal

pub on-requires : goal.on-requires
on-requires g c =
    let rest = g.C.Pass.Resting.rest in
    caller_is rest (g.C.Composed.has c.args._lock.now) (g.C.Composed.level c.args._lock.now) (g.C.Composed.tag c.args._lock.now)
    (contexts_of rest c.args.roll.now.told.value.items) c.args.job.share.caller c.args.job c.requires.job c.requires.at
