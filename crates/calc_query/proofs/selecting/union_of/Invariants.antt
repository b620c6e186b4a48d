use Rattle.std.proofs.Common.{◌≡◌, ◌<◌, ◌≤◌, ◌-◌, ◌&&◌, true}
use Rattle.cpu_set.specs.Sets.{has}
use Rattle.topo_tree.specs.Coverage.{set_of}
use Rattle.calc_query.proofs.SelectionLaws.{collected}
use Rattle.calc_query.proofs.selecting.union_of.Given as goal

-- the set of the indexes before this one, which is one of them or the end
abbrev pub invariant-loop-index : goal.invariant-loop-index
invariant-loop-index l = record {
  set : l.set ≡ collected (λ number index. has l.indexes index && has (set_of l.tree l.layer index) number) l.index;
  here : l.index < l.count → has l.indexes l.index ≡ true;
  within : l.index ≤ l.count;
}

abbrev pub decreases-loop-index : goal.decreases-loop-index
decreases-loop-index l = l.count - l.index
