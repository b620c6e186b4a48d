use Rattle.cpu_set.proofs.ListRoundTrip.{list_read_back}
use Rattle.cpu_set.proofs.laws.list_is_read_back.Goals as goal

pub returns : goal.returns
returns c = λ set ok. list_read_back set ok
