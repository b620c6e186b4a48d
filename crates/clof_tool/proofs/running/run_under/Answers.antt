use Rattle.std.proofs.Common.{◌≡◌, length, map, rules, subst, sym}
use Rattle.std.proofs.lemmas.Result.{IfOk-weaker}
use Rattle.run_texts.specs.Views.{section_view}
use Rattle.clof_answers.specs.Run.{PrintsRun}
use Rattle.clof_answers.proofs.Runs.{marks_under, none_printed, runs_under}
use Rattle.clof_tool.proofs.running.run_under.Goals as goal

pub returns-then-is_empty : goal.returns-then-is_empty
returns-then-is_empty g c =
    let none : length c.args.sections.now ≡ 0 = search rules in
    none_printed c.args.asked.receipts c.args.tree.now c.args.plan.now c.args.sections.now c.in_ok-shape.shape c.new.result.items
    c.in_ok-shape.ensures.shape none c.new.ensures.items

pub returns-then-asked : goal.returns-then-asked
returns-then-asked g c =
    let sections = c.args.sections.now in
    IfOk-weaker c.marked_text.result _ _ (λ text is.
    subst (λ r. PrintsRun r c.args.tree.now c.args.plan.now (map section_view sections) text.items) (sym c.if-asked.true)
    (marks_under c.args.tree.now c.args.plan.now sections c.in_ok-shape.shape text.items c.in_ok-shape.ensures.shape is))
    c.marked_text.ensures

pub returns : goal.returns
returns g c =
    let sections = c.args.sections.now in
    IfOk-weaker c.plain_text.result _ _ (λ text is.
    subst (λ r. PrintsRun r c.args.tree.now c.args.plan.now (map section_view sections) text.items) (sym c.if-asked.false)
    (runs_under c.args.tree.now c.args.plan.now sections c.in_ok-shape.shape text.items c.in_ok-shape.ensures.shape is))
    c.plain_text.ensures
