use Rattle.std.proofs.Common.{◌≡◌, ◌<◌, ◌≤◌, ◌-◌, ◌&&◌, true}
use Rattle.cpu_set.specs.Sets.{has}
use Rattle.topo_tree.specs.Coverage.{set_of}
use Rattle.calc_query.specs.Candidates.{candidates}
use Rattle.calc_query.specs.Selection.{is_picked_among}
use Rattle.calc_query.proofs.SelectionLaws.{collected}
use Rattle.calc_query.proofs.selecting.selected_inside.Given as goal

-- what is picked inside the indexes before this one, which is one of them or the end
abbrev pub invariant-loop-index : goal.invariant-loop-index
invariant-loop-index l = record {
  chosen : l.chosen ≡ collected (λ index outer. has l.before outer
      && is_picked_among l.tree l.numbering l.part (candidates l.tree l.part.layer (set_of l.tree l.layer outer)) index) l.index;
  here : l.index < l.count → has l.before l.index ≡ true;
  within : l.index ≤ l.count;
}

abbrev pub decreases-loop-index : goal.decreases-loop-index
decreases-loop-index l = l.count - l.index
