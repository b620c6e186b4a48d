use Rattle.std.proofs.Common.{sym, ap, ◌∙◌}
use Rattle.placed_runner.specs.Sections.{placed}
use Rattle.placed_runner.proofs.Readings.{one_applies}
use Rattle.placed_runner.proofs.Uniqueness.{sections_once, refusal_once, not_both}
use Rattle.placed_runner.proofs.laws.one_answer.Goals as goal

pub returns-clause-sections : goal.returns-clause-sections
returns-clause-sections c = λ described input sections others are also.
    are.placed_are ∙ ap (placed described) (sections_once described input are.written also.written are.are also.are) ∙ sym also.placed_are

pub returns-clause-refusal : goal.returns-clause-refusal
returns-clause-refusal c = refusal_once

pub returns-clause-either : goal.returns-clause-either
returns-clause-either c = λ described input sections fault are refused. not_both described input are.written fault are.are refused

pub returns-clause-some : goal.returns-clause-some
returns-clause-some c = one_applies
