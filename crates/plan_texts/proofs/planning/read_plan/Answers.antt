use Rattle.std.proofs.Common.{Err, inl, inr, ap}
use Rattle.command_words.specs.Plain.{plain_running}
use Rattle.plan_texts.proofs.RunPlans.{asked_plan, asked_refusal, refusal, refused_once, memory_alone, planned_not_refused}
use Rattle.plan_texts.proofs.planning.read_plan.Goals as goal

pub returns-in-Ok-clause-ok : goal.returns-in-Ok-clause-ok
returns-in-Ok-clause-ok c = asked_plan c.args.tree.now c.args.asked c.in-Ok.plan c.in-Ok.ensures.plan

pub returns-in-Ok-clause-refused : goal.returns-in-Ok-clause-refused
returns-in-Ok-clause-refused c status refuses =
    absurd (planned_not_refused c.args.tree.now (plain_running c.args.asked) c.in-Ok.plan status
    (asked_plan c.args.tree.now c.args.asked c.in-Ok.plan c.in-Ok.ensures.plan) refuses)

pub returns-in-Err-clause-err : goal.returns-in-Err-clause-err
returns-in-Err-clause-err c =
    refusal c.args.tree.now (plain_running c.args.asked) c.in-Err.fault _ c.plan_status.ensures.status
    (asked_refusal c.args.tree.now c.args.asked c.in-Err.fault c.in-Err.ensures.refused)

pub returns-in-Err-clause-refused : goal.returns-in-Err-clause-refused
returns-in-Err-clause-refused c status refuses =
    elim (refused_once c.args.tree.now (plain_running c.args.asked) c.in-Err.fault _ status c.plan_status.ensures.status
    (asked_refusal c.args.tree.now c.args.asked c.in-Err.fault c.in-Err.ensures.refused) refuses) [
      | inl same ↦ inl (ap Err same)
      | inr memory ↦ inr (ap Err memory)
    ]

pub returns-in-Err-clause-complete : goal.returns-in-Err-clause-complete
returns-in-Err-clause-complete c has =
    inr (ap Err (memory_alone c.args.tree.now (plain_running c.args.asked) c.in-Err.fault _ c.plan_status.ensures.status
    (asked_refusal c.args.tree.now c.args.asked c.in-Err.fault c.in-Err.ensures.refused) has))
