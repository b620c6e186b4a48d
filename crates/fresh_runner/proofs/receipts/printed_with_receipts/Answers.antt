use Rattle.std.proofs.Common.{◌++◌, map, ap, ◌∙◌}
use Rattle.run_texts.specs.Text.{turns_text}
use Rattle.run_texts.specs.Views.{section_view}
use Rattle.threaded_runner.proofs.Done.{all_closed}
use Rattle.fresh_runner.specs.Receipts.{marks_lines}
use Rattle.fresh_runner.proofs.Printing.{marked_run}
use Rattle.fresh_runner.proofs.receipts.printed_with_receipts.Goals as goal

pub returns : goal.returns
returns c =
    let left = c.args.made.now.left in
    let marks = c.args.made.now.marks.items in
    let placed = map section_view c.args.sections.now in
    let turns = c.turns.ensures.turns ∙ all_closed left.trail c.requires.finished.closed in
    let text = c.in_ok-out.ensures.text ∙ ap (turns_text placed) turns in
    let lines = ap marks_lines c.deref.ensures.value in
    record {
      run = marked_run left.trail left.journal c.args.sections.now marks _ c.requires.finished c.requires.sections c.facts.ensures.callers
          c.requires.marks (c.in_ok-push_lines.ensures ∙ ap (λ l. c.in_ok-out.out.items ++ l) lines ∙ ap (λ l. l ++ marks_lines marks)
          text);
    }
