use Rattle.std.proofs.Common.{◌≡◌, [], take, drop}
use Rattle.synth_text.specs.Rules.{first_again}
use Rattle.synth_text.proofs.rules.first_again.Given as goal

abbrev pub invariant-loop-place : goal.invariant-loop-place
invariant-loop-place l = first_again (take l.place l.parts) (drop l.place l.parts) ≡ first_again [] l.parts
