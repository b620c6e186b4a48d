use Rattle.std.proofs.Common.{◌≡◌, take}
use Rattle.run_work.proofs.shapes.copied_shape.Given as goal

-- the paths so far
abbrev pub invariant-loop-path : goal.invariant-loop-path
invariant-loop-path l = l.paths.items ≡ take l.path-index l.shape.paths
