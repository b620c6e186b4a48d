use Rattle.cpu_set.proofs.HexText.{DigitsSoFar}
use Rattle.cpu_set.proofs.write_hex.push_digits.Given as goal

abbrev pub invariant-loop-place : goal.invariant-loop-place
invariant-loop-place l = DigitsSoFar l.fn.text.items l.text.items 8 l.place l.word
