use Rattle.std.proofs.Common.{sym, ◌∙◌}
use Rattle.mc_text.proofs.Sections.{section_spelled, spelled_only}
use Rattle.mc_text.proofs.laws.one_reading.Goals as goal

pub returns-clause-exists : goal.returns-clause-exists
returns-clause-exists c = section_spelled

pub returns-clause-only : goal.returns-clause-only
returns-clause-only c = λ section commands others rest other_rest spelled other.
    let read = spelled_only section commands rest spelled in
    let read_other = spelled_only section others other_rest other in
    (read.0 ∙ sym read_other.0, read.1 ∙ sym read_other.1)
