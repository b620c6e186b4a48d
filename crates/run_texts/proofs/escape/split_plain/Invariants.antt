use Rattle.std.proofs.Common.{◌≡◌, ◌++◌, take, drop}
use Rattle.run_texts.specs.Text.{escaped}
use Rattle.run_texts.proofs.escape.split_plain.Given as goal

-- the bytes so far stand for themselves
abbrev pub invariant-loop-place : goal.invariant-loop-place
invariant-loop-place l = escaped l.text ≡ take l.place l.text ++ escaped (drop l.place l.text)
