use Rattle.lock_select.proofs.TraceReadings.{trace_once, refusal_once, not_both}
use Rattle.lock_select.proofs.laws.one_answer.Goals as goal

pub returns-clause-trace : goal.returns-clause-trace
returns-clause-trace c = trace_once

pub returns-clause-refusal : goal.returns-clause-refusal
returns-clause-refusal c = refusal_once

pub returns-clause-either : goal.returns-clause-either
returns-clause-either c = not_both
