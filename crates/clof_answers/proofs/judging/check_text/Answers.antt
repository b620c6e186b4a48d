use Rattle.std.proofs.Common.{Err, inl, ap}
use Rattle.command_texts.proofs.OnTopologies.{err_again, not_refused}
use Rattle.clof_answers.proofs.Judgements.{form_only, parts_only}
use Rattle.clof_answers.proofs.judging.check_text.Goals as goal

pub returns-in-Err-clause-refused : goal.returns-in-Err-clause-refused
returns-in-Err-clause-refused c status refuses =
    inl (ap Err (form_only c.args.tree.now c.args.bytes.now c.in-Err.fault status c.in-Err.ensures.refused refuses))

pub returns-in-Err-judged-clause-refused : goal.returns-in-Err-judged-clause-refused
returns-in-Err-judged-clause-refused c status refuses =
    let broken = parts_only c.args.tree.now c.args.bytes.now c.in-Ok.pair.0.now c.in-Ok.pair.1.now status c.in-Ok.ensures.pair refuses in
    err_again c.in-Err-judged.status status (c.in-Err-judged.ensures.refused status broken)

pub returns-in-Ok-verdict_text-clause-refused : goal.returns-in-Ok-verdict_text-clause-refused
returns-in-Ok-verdict_text-clause-refused c status refuses =
    let broken = parts_only c.args.tree.now c.args.bytes.now c.in-Ok.pair.0.now c.in-Ok.pair.1.now status c.in-Ok.ensures.pair refuses in
    absurd (not_refused c.in-Ok-judged.verdict status (c.in-Ok-judged.ensures.refused status broken))
