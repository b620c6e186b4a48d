use Rattle.std.proofs.Common.{◌-◌}
use Rattle.lock_shape.proofs.Shapes.{IsCount}
use Rattle.lock_shape.proofs.contexts_at.Given as goal

abbrev pub invariant-loop-caller : goal.invariant-loop-caller
invariant-loop-caller l = IsCount l.shape (l.level - 1) l.caller l.count
