use Rattle.synth_spelling.proofs.LevelItems.{level_spelled, level_read}
use Rattle.synth_spelling.proofs.MemoryItems.{memory_spelled, memory_read}
use Rattle.synth_spelling.proofs.laws.items_are_spelled.Goals as goal

pub returns-clause-level : goal.returns-clause-level
returns-clause-level c = λ untyped text part. (level_spelled untyped text part, level_read untyped text part)

pub returns-clause-memory : goal.returns-clause-memory
returns-clause-memory c = λ text part. (memory_spelled text part, memory_read text part)
