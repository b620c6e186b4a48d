use Rattle.std.proofs.Common.{◌≡◌, ◌-◌, List, ℕ, length}
use Rattle.cpu_set.proofs.ListText.{ListWritten}
use Rattle.cpu_set.proofs.set.CpuSet.list_len.Given as goal

abbrev pub invariant-loop-run : goal.invariant-loop-run
invariant-loop-run l = (text : List ℕ) × (length text ≡ l.length) × ListWritten l.self l.from text

abbrev pub decreases-loop-run : goal.decreases-loop-run
decreases-loop-run l = 4096 - l.from
