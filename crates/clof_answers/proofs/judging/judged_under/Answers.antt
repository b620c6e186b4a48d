use Rattle.std.proofs.lemmas.Result.{IfOk-weaker}
use Rattle.clof_answers.proofs.Judgements.{judges_run}
use Rattle.clof_answers.proofs.judging.judged_under.Goals as goal

pub returns : goal.returns
returns c =
    IfOk-weaker c.check.result _ _ (λ verdict is.
    judges_run c.args.tree.now c.args.plan.now c.args.sections.now c.in_ok-shape.shape c.args.printed.now verdict
    c.in_ok-shape.ensures.shape is)
    c.check.ensures
