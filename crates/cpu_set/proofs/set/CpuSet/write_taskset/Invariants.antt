use Rattle.std.proofs.Common.{codes}
use Rattle.cpu_set.specs.Bits.{mask_of}
use Rattle.cpu_set.proofs.HexText.{DigitsSoFar}
use Rattle.cpu_set.proofs.set.CpuSet.write_taskset.Given as goal

abbrev pub invariant-loop-place : goal.invariant-loop-place
invariant-loop-place l = DigitsSoFar (codes "0x") l.text.items l.count l.place (mask_of l.self)
