use Rattle.cpu_set.proofs.ReadLaws.{list_exactly_one, list_reads_sets}
use Rattle.cpu_set.proofs.laws.list_is_read_or_refused.Goals as goal

pub returns-clause-one : goal.returns-clause-one
returns-clause-one c = λ text. list_exactly_one text

pub returns-clause-set : goal.returns-clause-set
returns-clause-set c = λ text. list_reads_sets text
