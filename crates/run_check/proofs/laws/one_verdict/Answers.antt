use Rattle.run_check.proofs.Once.{broken_once}
use Rattle.run_check.proofs.RunLines.{no_broken}
use Rattle.run_check.proofs.Walked.{one_applies}
use Rattle.run_check.proofs.laws.one_verdict.Goals as goal

pub returns-clause-either : goal.returns-clause-either
returns-clause-either c = no_broken

pub returns-clause-line : goal.returns-clause-line
returns-clause-line c = broken_once

pub returns-clause-some : goal.returns-clause-some
returns-clause-some c = one_applies
