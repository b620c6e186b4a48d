use Rattle.std.proofs.Common.{◌≡◌, length}
use Rattle.level_harness.proofs.shapes.shape_of.Given as goal

abbrev pub invariant-loop-path : goal.invariant-loop-path
invariant-loop-path l = length l.list.items ≡ l.path-index
