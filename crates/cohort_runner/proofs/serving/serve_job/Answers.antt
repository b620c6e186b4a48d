use Rattle.std.proofs.Common.{◌≡◌, ap, sym, ◌∙◌, subst, Some}
use Rattle.std.specs.Prelude.{slice_get}
use Rattle.cohort_runner.specs.Rolls.{contexts_of}
use Rattle.cohort_runner.proofs.Rolls.{own_number}
use Rattle.cohort_runner.proofs.serving.serve_job.Goals as goal

pub returns-clause-job : goal.returns-clause-job
returns-clause-job g c =
    own_number g.C.Pass.Resting.rest (g.C.Composed.has c.args.lock.now) (g.C.Composed.level c.args.lock.now)
    (g.C.Composed.tag c.args.lock.now) c.args.job.share.caller c.give_some.result c.give_some.ensures.job

pub returns-clause-at : goal.returns-clause-at
returns-clause-at g c =
    let rest = g.C.Pass.Resting.rest in
    subst (λ n. slice_get (contexts_of rest c.args._roll.now.told.value.items) n ≡ Some (rest c.give_some.result.pass).context)
    (sym c.give_some.ensures.job.share_is.caller_is) (c.requires.at ∙ ap Some (sym c.give_some.ensures.pass))

pub returns-clause-number : goal.returns-clause-number
returns-clause-number g c = c.give_some.ensures.job.share_is.caller_is
