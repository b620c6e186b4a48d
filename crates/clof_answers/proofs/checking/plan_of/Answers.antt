use Rattle.std.proofs.Common.{subst, sym}
use Rattle.std.specs.Prelude.{IfErr, IfOk}
use Rattle.out_of_memory.specs.Memory.{UnlessMemory}
use Rattle.command_words.specs.Asked.{Running}
use Rattle.command_texts.specs.declared.status.Status.TheVariants.{OutOfMemory}
use Rattle.plan_texts.specs.RunPlan.{HasPlan, PlanOf, RefusesPlan}
use Rattle.clof_answers.proofs.checking.plan_of.Goals as goal

pub returns-clause-ok : goal.returns-clause-ok
returns-clause-ok c =
    subst (λ (r : Running). IfOk c.read_plan.result (PlanOf c.args.tree.now r)) c.as_run.ensures c.read_plan.ensures.ok

pub returns-clause-err : goal.returns-clause-err
returns-clause-err c =
    subst (λ (r : Running). IfErr c.read_plan.result (λ status. UnlessMemory OutOfMemory status (RefusesPlan c.args.tree.now r status)))
    c.as_run.ensures c.read_plan.ensures.err

pub returns-clause-refused : goal.returns-clause-refused
returns-clause-refused c status refuses =
    c.read_plan.ensures.refused status (subst (λ (r : Running). RefusesPlan c.args.tree.now r status) (sym c.as_run.ensures) refuses)

pub returns-clause-complete : goal.returns-clause-complete
returns-clause-complete c has = c.read_plan.ensures.complete (subst (HasPlan c.args.tree.now) (sym c.as_run.ensures) has)
