use Rattle.std.proofs.Common.{◌≡◌, ◌≤◌}
use Rattle.std.specs.Prelude.{◌==◌, All}
use Rattle.byte_text.specs.Cuts.{pieces}
use Rattle.byte_text.specs.Views.{text_at}
use Rattle.byte_text.proofs.CutLaws.{left}
use Rattle.synth_text.specs.IndexTexts.{entries_of}
use Rattle.synth_text.proofs.Entries.{after}
use Rattle.lock_select.specs.Texts.{listed_weights, weight_limit, weight_of}
use Rattle.lock_select.proofs.weights.read_list.Given as goal

-- what was listed so far, and what the rest lists
abbrev pub invariant-loop-rest : goal.invariant-loop-rest
invariant-loop-rest l = record {
  listed : after l.weights.items (entries_of weight_of (pieces (λ byte. byte == 44) (text_at l.rest))) ≡ listed_weights l.fn.text;
  few : All (λ weight. weight ≤ weight_limit) l.weights.items;
}

abbrev pub decreases-loop-rest : goal.decreases-loop-rest
decreases-loop-rest l = left (text_at l.rest)
