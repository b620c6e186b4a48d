use Rattle.std.proofs.Common.{◌≡◌, ℕ, ◌<◌, ◌≤◌, true, false}
use Rattle.synth_text.specs.Items.{IsInside, EndsLevel}
use Rattle.synth_text.proofs.items.level_end.Given as goal

abbrev pub invariant-loop-place : goal.invariant-loop-place
invariant-loop-place l = record {
  whole : (k : ℕ) → l.start ≤ k → k < l.place → ¬ (EndsLevel l.text l.start k);
  inside : l.inside ≡ true → IsInside l.text l.start l.place;
  outside : l.inside ≡ false → ¬ (IsInside l.text l.start l.place);
  begun : l.start ≤ l.place;
}
