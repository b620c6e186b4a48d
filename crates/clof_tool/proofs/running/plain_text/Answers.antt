use Rattle.std.proofs.Common.{◌≡◌, ◌∙◌, ap, map, subst}
use Rattle.std.proofs.lemmas.Result.{IfOk-weaker}
use Rattle.run_texts.specs.Printed.{IsRun}
use Rattle.run_texts.specs.Views.{section_view}
use Rattle.clof_tool.proofs.running.plain_text.Goals.{in-None+in_ok-left-in-None, in-Some+in_ok-left-in-Some}
use Rattle.clof_tool.proofs.running.plain_text.Goals as goal

pub returns : goal.returns
returns g c =
    let shape : c.match-asked.left.trail.shape ≡ c.args.shape.now = elim c.match-asked.branch [
      | in-None+in_ok-left-in-None w ↦ ap (λ l. l.trail.shape) w.left-is ∙ w.in_ok-left-in-None.ensures.shape
      | in-Some+in_ok-left-in-Some w ↦ ap (λ l. l.trail.shape) w.left-is ∙ w.in_ok-left-in-Some.ensures.shape
    ] in
    IfOk-weaker c.printed.result _ _ (λ text is.
    subst (λ s. IsRun (map section_view c.args.sections.now) s text.items) shape is)
    c.printed.ensures.run
