use Rattle.std.proofs.Common.{◌≡◌, ◌&&◌, not, take}
use Rattle.std.specs.Prelude.{◌==◌, nat_lt}
use Rattle.std.specs.List.{list_all}
use Rattle.mc_text.proofs.field.are_seen.Given as goal

-- whether the bytes so far are as they should be
abbrev pub invariant-loop-byte : goal.invariant-loop-byte
invariant-loop-byte l = l.seen ≡ list_all (λ byte. nat_lt 32 byte && not (byte == 127)) (take l.byte-index l.word)
