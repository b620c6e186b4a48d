use Rattle.clof_answers.proofs.SectionRuns.{one_history, one_refusal, some_applies, text_or_refusal}
use Rattle.clof_answers.proofs.laws.one_run.Goals as goal

pub returns-clause-history : goal.returns-clause-history
returns-clause-history c = one_history

pub returns-clause-refusal : goal.returns-clause-refusal
returns-clause-refusal c = one_refusal

pub returns-clause-either : goal.returns-clause-either
returns-clause-either c = text_or_refusal

pub returns-clause-some : goal.returns-clause-some
returns-clause-some c = some_applies
