use Rattle.std.proofs.Common.{◌≡◌, ◌≤◌, take}
use Rattle.std.specs.Str.Parse.{digits_value}
use Rattle.byte_text.proofs.numerals.value_up_to.Given as goal

-- the value is that of the digits so far, and at most the limit
abbrev pub invariant-loop-byte : goal.invariant-loop-byte
invariant-loop-byte l = (l.value ≡ digits_value l.radix (take l.byte-index l.text)) × (l.value ≤ l.limit)
