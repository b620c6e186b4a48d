use Rattle.std.proofs.Common.{◌≡◌, map, take}
use Rattle.lock_plan.specs.Shapes.{path_on}
use Rattle.lock_plan.proofs.nodes.paths.Given as goal

-- the paths of the callers so far
abbrev pub invariant-loop-caller : goal.invariant-loop-caller
invariant-loop-caller l = l.paths.items ≡ map (path_on l.tree l.pus l.depths) (take l.caller l.pus)
