use Rattle.std.proofs.lemmas.List.{length-replicate}
use Rattle.keep_local.specs.Shapes.{callers_of}
use Rattle.keep_local.specs.States.{free_quota, free_quotas}
use Rattle.own_runner.proofs.Roots.{may_run}
use Rattle.plan_bench.proofs.unrecorded.run_plan.Goals as goal

pub hold_flat-requires-clause-may : goal.hold_flat-requires-clause-may
hold_flat-requires-clause-may g c κs within =
    let made = c.in-Some.ensures in
    let callers = callers_of c.args.shape.now in
    may_run c.in-Some.root _ (free_quotas callers) _ _ c.requires.formed c.requires.few c.requires.plan
    (length-replicate callers (free_quota callers)) made.shape made.quotas made.shares

pub hold_deep-requires-clause-may : goal.hold_deep-requires-clause-may
hold_deep-requires-clause-may g c κs within =
    let made = c.in-Some.ensures in
    let callers = callers_of c.args.shape.now in
    may_run c.in-Some.root _ (free_quotas callers) _ _ c.requires.formed c.requires.few c.requires.plan
    (length-replicate callers (free_quota callers)) made.shape made.quotas made.shares
