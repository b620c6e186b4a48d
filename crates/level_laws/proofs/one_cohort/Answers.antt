use Rattle.level_laws.proofs.Cohorts.{one_cohort_lem}
use Rattle.level_laws.proofs.one_cohort.Goals as goal

pub returns : goal.returns
returns c = one_cohort_lem
