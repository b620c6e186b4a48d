use Rattle.cpu_set.proofs.HexRoundTrip.{hex_read_back}
use Rattle.cpu_set.proofs.laws.hex_is_read_back.Goals as goal

pub returns : goal.returns
returns c = λ set ok. hex_read_back set ok
