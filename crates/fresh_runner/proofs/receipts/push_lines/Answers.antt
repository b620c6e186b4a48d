use Rattle.std.proofs.Common.{◌++◌, take, ap, sym, ◌∙◌, append_assoc}
use Rattle.run_texts.proofs.Numbered.{joined_more}
use Rattle.fresh_runner.specs.Receipts.{marks_lines, receipts_line}
use Rattle.fresh_runner.specs.declared.account.Marks.{Marks}
use Rattle.fresh_runner.proofs.receipts.push_lines.Goals as goal

pub loop-caller-preserved : goal.loop-caller-preserved
loop-caller-preserved c =
    let caller = c.loop-caller.caller in
    let marks = c.args.marks.now in
    let own = c.index-marks-caller.result in
    let line = receipts_line caller own.turns.items in
    let before = c.args.out.now.items in
    c.in_ok-push_line.ensures ∙ ap (λ turns. c.loop-caller.out.items ++ receipts_line caller turns) c.deref.ensures.value
    ∙ ap (λ front. front ++ line) c.loop-caller.invariant ∙ append_assoc before (marks_lines (take caller marks)) line
    ∙ ap (λ end. before ++ end) (sym (joined_more (λ (m : Marks). m.turns.items) (λ at. receipts_line at.0 at.1) marks caller own own
    c.loop-caller-test.true c.index-marks-caller.is))
