use Rattle.std.proofs.Common.{◌≡◌}
use Rattle.std.specs.Prelude.{◌==◌}
use Rattle.std.specs.List.{slice_split}
use Rattle.byte_text.specs.Cuts.{pieces}
use Rattle.byte_text.specs.Views.{text_at}
use Rattle.synth_text.specs.IndexTexts.{entries_of}
use Rattle.synth_text.proofs.Entries.{after}
use Rattle.byte_text.proofs.CutLaws.{left}
use Rattle.synth_text.proofs.index_text.read_entries.Given as goal

-- what was said so far, and what the rest says
abbrev pub invariant-loop-rest : goal.invariant-loop-rest
invariant-loop-rest g l =
    after l.entries.items (entries_of g.E.Entry.says (pieces (λ byte. byte == l.separator) (text_at l.rest))) ≡ entries_of g.E.Entry.says
    (slice_split (λ byte. byte == l.separator) l.fn.text)

abbrev pub decreases-loop-rest : goal.decreases-loop-rest
decreases-loop-rest g l = left (text_at l.rest)
