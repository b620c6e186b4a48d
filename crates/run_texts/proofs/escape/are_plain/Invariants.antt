use Rattle.std.proofs.Common.{◌≡◌, true, take}
use Rattle.run_texts.specs.Text.{escaped}
use Rattle.run_texts.proofs.escape.are_plain.Given as goal

-- the bytes so far stand for themselves
abbrev pub invariant-loop-byte : goal.invariant-loop-byte
invariant-loop-byte l = l.plain ≡ true → escaped (take l.byte-index l.block) ≡ take l.byte-index l.block
