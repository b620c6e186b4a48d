use Rattle.std.proofs.Common.{◌≡◌, List, ℕ, length}
use Rattle.cpu_set.proofs.HexText.{HexWritten}
use Rattle.cpu_set.proofs.set.CpuSet.hex_len.Given as goal

abbrev pub invariant-loop-place : goal.invariant-loop-place
invariant-loop-place l = (text : List ℕ) × (length text ≡ l.length) × HexWritten l.self l.count l.place text
