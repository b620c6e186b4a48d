use Rattle.std.proofs.Common.{map, subst}
use Rattle.std.proofs.lemmas.Result.{IfOk-weaker}
use Rattle.run_texts.specs.Views.{section_view}
use Rattle.fresh_runner.specs.Receipts.{IsMarkedRun}
use Rattle.clof_tool.proofs.running.marked_text.Goals as goal

pub returns : goal.returns
returns g c =
    IfOk-weaker c.printed_with_receipts.result _ _ (λ text is.
    subst (λ s. IsMarkedRun (map section_view c.args.sections.now) s text.items) c.in_ok-made.ensures.shape is)
    c.printed_with_receipts.ensures.run
