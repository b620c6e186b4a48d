use Rattle.std.proofs.Common.{take}
use Rattle.keep_local.specs.Turns.{IsLawful}
use Rattle.keep_local.proofs.checker.is_lawful.Given as goal

abbrev pub invariant-loop-i : goal.invariant-loop-i
invariant-loop-i l = IsLawful l.shape (take l.i l.turns)
