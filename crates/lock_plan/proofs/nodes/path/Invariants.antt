use Rattle.std.proofs.Common.{◌≡◌, map, take}
use Rattle.std.specs.Prelude.{slice_index}
use Rattle.lock_plan.proofs.nodes.path.Given as goal

-- the nodes at the levels so far
abbrev pub invariant-loop-nodes : goal.invariant-loop-nodes
invariant-loop-nodes l = l.path.items ≡ map (λ nodes. slice_index nodes.items l.caller) (take l.nodes-index l.levels)
