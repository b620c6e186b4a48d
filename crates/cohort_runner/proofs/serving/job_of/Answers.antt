use Rattle.std.proofs.Common.{refl, ◌∙◌}
use Rattle.cohort_runner.specs.Rolls.{contexts_of}
use Rattle.cohort_runner.proofs.Rolls.{job_is, place_is}
use Rattle.cohort_runner.proofs.serving.job_of.Goals as goal

pub returns-clause-job : goal.returns-clause-job
returns-clause-job g c =
    let rest = g.C.Pass.Resting.rest in
    job_is rest (g.C.Composed.has c.args._lock.now) (g.C.Composed.level c.args._lock.now) (g.C.Composed.tag c.args._lock.now)
    (contexts_of rest c.args._roll.now.told.value.items) (contexts_of rest c.into_parts-job.result.1.value.told.value.items)
    c.args.caller.number c.into_parts-job.result.0 c.requires.roll (c.into_parts-job.ensures.tag ∙ c.requires.caller)
    c.into_parts-job.ensures.caller c.into_parts-job.ensures.number

pub returns-clause-at : goal.returns-clause-at
returns-clause-at g c =
    let rest = g.C.Pass.Resting.rest in
    place_is rest (g.C.Composed.has c.args._lock.now) (g.C.Composed.level c.args._lock.now) (g.C.Composed.tag c.args._lock.now)
    (contexts_of rest c.args._roll.now.told.value.items) (contexts_of rest c.into_parts-job.result.1.value.told.value.items)
    c.args.caller.number c.into_parts-job.result.0 (c.into_parts-job.ensures.tag ∙ c.requires.caller)
    c.into_parts-job.ensures.caller c.into_parts-job.ensures.number

pub returns-clause-own : goal.returns-clause-own
returns-clause-own g c =
    let rest = g.C.Pass.Resting.rest in
    job_is rest (g.C.Composed.has c.args._lock.now) (g.C.Composed.level c.args._lock.now) (g.C.Composed.tag c.args._lock.now)
    (contexts_of rest c.args._roll.now.told.value.items) (contexts_of rest c.into_parts-job.result.1.value.told.value.items)
    c.into_parts-job.result.0.share.caller c.into_parts-job.result.0 c.requires.roll (c.into_parts-job.ensures.tag ∙ c.requires.caller)
    c.into_parts-job.ensures.caller refl

pub returns-clause-placed : goal.returns-clause-placed
returns-clause-placed g c =
    let rest = g.C.Pass.Resting.rest in
    place_is rest (g.C.Composed.has c.args._lock.now) (g.C.Composed.level c.args._lock.now) (g.C.Composed.tag c.args._lock.now)
    (contexts_of rest c.args._roll.now.told.value.items) (contexts_of rest c.into_parts-job.result.1.value.told.value.items)
    c.into_parts-job.result.0.share.caller c.into_parts-job.result.0 (c.into_parts-job.ensures.tag ∙ c.requires.caller)
    c.into_parts-job.ensures.caller refl
