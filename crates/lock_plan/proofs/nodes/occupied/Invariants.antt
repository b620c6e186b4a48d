use Rattle.std.proofs.Common.{◌≡◌, map, take}
use Rattle.topo_tree.specs.Coverage.{object_over}
use Rattle.lock_plan.proofs.nodes.occupied.Given as goal

-- the objects over the PUs so far
abbrev pub invariant-loop-pu : goal.invariant-loop-pu
invariant-loop-pu l = l.objects.items ≡ map (λ pu. object_over l.tree l.depth pu) (take l.pu-index l.pus)
