use Rattle.std.proofs.Common.{length}
use Rattle.clof_compose.specs.Contexts.{AreContexts}
use Rattle.lock_shape.proofs.Shapes.{HaveParents}
use Rattle.lock_shape.proofs.parents_at.Given as goal

abbrev pub invariant-loop-caller : goal.invariant-loop-caller
invariant-loop-caller l = record {
  parents : HaveParents l.shape l.level l.caller l.parents.items;
  contexts : AreContexts l.shape l.level (length l.parents.items);
}
