use Rattle.std.proofs.Common.{◌≡◌, ℕ, ◌<◌, false, get_or}
use Rattle.byte_text.specs.InClass.{in_class}
use Rattle.byte_text.proofs.cuts.cut.Given as goal

-- no byte so far is of the class
abbrev pub invariant-loop-place : goal.invariant-loop-place
invariant-loop-place l = (k : ℕ) → k < l.place → in_class l.class (get_or l.text k 0) ≡ false
