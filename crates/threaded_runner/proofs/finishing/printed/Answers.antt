use Rattle.std.proofs.Common.{◌≡◌, map, ap, sym, ◌∙◌, subst}
use Rattle.std.proofs.lemmas.Result.{IfOk-weaker}
use Rattle.keep_local.specs.States.{callers_in}
use Rattle.run_texts.specs.Printed.{IsRun}
use Rattle.run_texts.specs.Text.{turns_text}
use Rattle.run_texts.specs.Views.{section_view}
use Rattle.threaded_runner.proofs.Done.{all_closed, run_of}
use Rattle.threaded_runner.proofs.finishing.printed.Goals as goal

pub text-requires-clause-calls : goal.text-requires-clause-calls
text-requires-clause-calls c =
    let left = c.requires.finished in
    ap callers_in (c.turns.ensures.turns ∙ all_closed c.args.left.now.trail left.closed) ∙ sym left.called

pub returns : goal.returns
returns c =
    let left = c.args.left.now in
    let placed = map section_view c.args.sections.now in
    let turns : c.turns.result.now ≡ left.trail.closed = c.turns.ensures.turns ∙ all_closed left.trail c.requires.finished.closed in
    let run = run_of left.trail left.journal c.args.sections.now c.requires.finished c.requires.sections c.facts.ensures.callers in
    record {
      run = IfOk-weaker c.text.result _ _ (λ printed is. subst (IsRun placed left.trail.shape)
          (sym (is ∙ ap (turns_text placed) turns)) run) c.text.ensures.text;
    }
