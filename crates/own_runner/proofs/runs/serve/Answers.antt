use Rattle.std.proofs.lemmas.List.{length-replicate}
use Rattle.keep_local.specs.Shapes.{callers_of}
use Rattle.keep_local.specs.States.{free_quota, free_quotas}
use Rattle.own_runner.proofs.Roots.{may_run, of_quotas, of_recorded, of_shape}
use Rattle.own_runner.proofs.runs.serve.Goals as goal

pub run_given-requires-clause-may : goal.run_given-requires-clause-may
run_given-requires-clause-may g c κs within =
    let made = c.in-Some.ensures in
    let callers = callers_of c.args.shape.now in
    may_run c.in-Some.root _ (free_quotas callers) _ _ c.requires.formed c.requires.few c.requires.plan
    (length-replicate callers (free_quota callers)) made.shape made.quotas made.shares

pub returns-clause-recorded : goal.returns-clause-recorded
returns-clause-recorded g c = of_recorded c.in-Some.root c.run_given.result c.run_given.ensures.tagged _ c.in-Some.ensures.recorded

pub returns-clause-shape : goal.returns-clause-shape
returns-clause-shape g c = of_shape c.in-Some.root c.run_given.result c.run_given.ensures.tagged _ c.in-Some.ensures.shape

pub returns-clause-quotas : goal.returns-clause-quotas
returns-clause-quotas g c = of_quotas c.in-Some.root c.run_given.result c.run_given.ensures.tagged _ c.in-Some.ensures.quotas
