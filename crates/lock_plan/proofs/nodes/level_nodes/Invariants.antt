use Rattle.std.proofs.Common.{◌≡◌, map, take}
use Rattle.lock_plan.specs.Shapes.{node_on}
use Rattle.lock_plan.proofs.nodes.level_nodes.Given as goal

-- the nodes of the levels so far
abbrev pub invariant-loop-depth : goal.invariant-loop-depth
invariant-loop-depth l =
    map (λ nodes. nodes.items) l.levels.items ≡ map (λ depth. map (node_on l.tree l.pus depth) l.pus) (take l.depth-index l.depths)
