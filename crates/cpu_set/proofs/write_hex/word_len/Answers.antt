use Rattle.cpu_set.proofs.HexText.{word_len}
use Rattle.cpu_set.proofs.write_hex.word_len.Goals as goal

pub returns-in_default-clause-length : goal.returns-in_default-clause-length
returns-in_default-clause-length c = word_len c.args.place c.args.word c.in_default.is-0.1
