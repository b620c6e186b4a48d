use Rattle.cpu_set.proofs.HexText.{HexWritten}
use Rattle.cpu_set.proofs.set.CpuSet.write_hex.Given as goal

abbrev pub invariant-loop-place : goal.invariant-loop-place
invariant-loop-place l = HexWritten l.self l.count l.place l.text.items
