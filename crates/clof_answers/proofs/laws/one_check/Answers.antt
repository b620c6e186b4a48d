use Rattle.clof_answers.proofs.Checks.{check_or_refusal, one_check_refusal, one_text, yes_where_run}
use Rattle.clof_answers.proofs.laws.one_check.Goals as goal

pub returns-clause-text : goal.returns-clause-text
returns-clause-text c = one_text

pub returns-clause-yes : goal.returns-clause-yes
returns-clause-yes c = yes_where_run

pub returns-clause-refusal : goal.returns-clause-refusal
returns-clause-refusal c = one_check_refusal

pub returns-clause-either : goal.returns-clause-either
returns-clause-either c = check_or_refusal
