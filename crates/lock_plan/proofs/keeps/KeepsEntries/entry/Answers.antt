use Rattle.std.proofs.Common.{refl}
use Rattle.byte_text.specs.Numerals.{number_below}
use Rattle.lock_select.specs.Texts.{keep_of}
use Rattle.lock_plan.proofs.keeps.KeepsEntries.entry.Goals as goal

pub returns-clause-empty : goal.returns-clause-empty
unfolding keep_of number_below
returns-clause-empty c = refl
