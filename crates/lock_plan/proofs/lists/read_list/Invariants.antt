use Rattle.std.proofs.Common.{◌+◌, ◌*◌, ◌≤◌, length}
use Rattle.std.specs.Prelude.{◌==◌}
use Rattle.byte_text.specs.Cuts.{pieces}
use Rattle.byte_text.specs.Views.{text_at}
use Rattle.byte_text.proofs.CutLaws.{left}
use Rattle.lock_plan.specs.Lists.{pieces_of}
use Rattle.lock_plan.proofs.Readings.{HasRead}
use Rattle.lock_plan.proofs.lists.read_list.Given as goal

-- what was read so far; each entry took a byte and what stands behind it
abbrev pub invariant-loop-rest : goal.invariant-loop-rest
invariant-loop-rest g l = record {
  read : HasRead (g.R.Entries.says l.reader) (pieces_of l.separator l.fn.text) l.entries.items
      (pieces (λ byte. byte == l.separator) (text_at l.rest));
  few : 2 * length l.entries.items + left (text_at l.rest) ≤ length l.fn.text + 2;
}

abbrev pub decreases-loop-rest : goal.decreases-loop-rest
decreases-loop-rest g l = left (text_at l.rest)
