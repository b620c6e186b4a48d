use Rattle.std.proofs.Common.{take}
use Rattle.std.specs.Str.Parse.{AllDigits}
use Rattle.byte_text.proofs.numerals.are_digits.Given as goal

-- the bytes so far are digits
abbrev pub invariant-loop-byte : goal.invariant-loop-byte
invariant-loop-byte l = AllDigits l.radix (take l.byte-index l.text)
