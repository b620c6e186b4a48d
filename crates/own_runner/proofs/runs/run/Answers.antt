use Rattle.own_payload.proofs.Worked.{all_made}
use Rattle.own_runner.proofs.Roots.{if_some, may_run, of_quotas, of_recorded, of_shape}
use Rattle.own_runner.proofs.runs.run.Goals as goal

pub run_given-requires-clause-may : goal.run_given-requires-clause-may
run_given-requires-clause-may g c κs within =
    let made = c.in-Some.ensures in
    may_run c.in-Some.root _ c.args.quotas.now _ _ c.requires.formed c.requires.few c.requires.plan c.requires.quotas made.shape
    made.quotas made.shares

pub returns-clause-recorded : goal.returns-clause-recorded
returns-clause-recorded g c = of_recorded c.in-Some.root c.run_given.result c.run_given.ensures.tagged _ c.in-Some.ensures.recorded

pub returns-clause-shape : goal.returns-clause-shape
returns-clause-shape g c = of_shape c.in-Some.root c.run_given.result c.run_given.ensures.tagged _ c.in-Some.ensures.shape

pub returns-clause-quotas : goal.returns-clause-quotas
returns-clause-quotas g c = of_quotas c.in-Some.root c.run_given.result c.run_given.ensures.tagged _ c.in-Some.ensures.quotas

pub returns-clause-made : goal.returns-clause-made
returns-clause-made g c = if_some _ _ c.run_given.result (λ r. all_made r.trail) c.run_given.ensures.ended
