use Rattle.std.proofs.Common.{◌≡◌, ℕ, ◌<◌, true, get_or}
use Rattle.byte_text.specs.InClass.{in_class}
use Rattle.byte_text.proofs.cuts.front_len.Given as goal

abbrev pub invariant-loop-place : goal.invariant-loop-place
invariant-loop-place l = (k : ℕ) → k < l.place → in_class l.class (get_or l.text k 0) ≡ true
