use Rattle.synth_spelling.proofs.Values.{size_spelled, size_read, indexes_spelled, indexes_read}
use Rattle.synth_spelling.proofs.Words.{attributes_spelled, attributes_read_of}
use Rattle.synth_spelling.proofs.laws.values_are_spelled.Goals as goal

pub returns-clause-size : goal.returns-clause-size
returns-clause-size c = λ text bytes. (size_spelled text bytes, size_read text bytes)

pub returns-clause-indexes : goal.returns-clause-indexes
returns-clause-indexes c = λ text given. (indexes_spelled text given, indexes_read text given)

pub returns-clause-attributes : goal.returns-clause-attributes
returns-clause-attributes c = λ kind text attributes. (attributes_spelled kind text attributes, attributes_read_of kind text attributes)
