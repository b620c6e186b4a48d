use Rattle.std.proofs.Common.{◌≡◌, ◌<◌, ℕ}
use Rattle.topo_tree.specs.Objects.{depth_count}
use Rattle.topo_tree.specs.Coverage.{object_over}
use Rattle.lock_select.proofs.nodes.common_depth.Given as goal

-- the PUs are under other objects at each lower depth
abbrev pub invariant-loop-depth : goal.invariant-loop-depth
invariant-loop-depth l = record {
  within : l.depth < depth_count l.tree;
  apart : (d : ℕ) → l.depth < d → d < depth_count l.tree → object_over l.tree d l.pu ≡ object_over l.tree d l.next → ⊥;
}

abbrev pub decreases-loop-depth : goal.decreases-loop-depth
decreases-loop-depth l = l.depth
