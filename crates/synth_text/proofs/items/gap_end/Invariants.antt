use Rattle.synth_text.specs.Items.{IsGap}
use Rattle.synth_text.proofs.items.gap_end.Given as goal

abbrev pub invariant-loop-place : goal.invariant-loop-place
invariant-loop-place l = IsGap l.text l.from l.place
