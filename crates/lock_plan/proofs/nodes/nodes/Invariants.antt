use Rattle.std.proofs.Common.{◌≡◌, map, take}
use Rattle.lock_plan.specs.Shapes.{node_on}
use Rattle.lock_plan.proofs.nodes.nodes.Given as goal

-- the nodes of the callers so far
abbrev pub invariant-loop-pu : goal.invariant-loop-pu
invariant-loop-pu l = l.nodes.items ≡ map (node_on l.tree l.pus l.depth) (take l.pu-index l.pus)
