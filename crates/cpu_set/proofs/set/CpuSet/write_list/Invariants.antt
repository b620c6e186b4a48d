use Rattle.std.proofs.Common.{◌-◌}
use Rattle.cpu_set.proofs.ListText.{ListWritten}
use Rattle.cpu_set.proofs.set.CpuSet.write_list.Given as goal

abbrev pub invariant-loop-run : goal.invariant-loop-run
invariant-loop-run l = ListWritten l.self l.from l.text.items

abbrev pub decreases-loop-run : goal.decreases-loop-run
decreases-loop-run l = 4096 - l.from
