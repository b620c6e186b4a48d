-- The tables that a tree and a topology keep, so that each question is a look-up.
use Rattle.std.specs.Prelude.{◌≡◌, map}
use Rattle.topo_tree.specs.declared.tree.Tree.TheInside.{Inside as TreeInside}
use Rattle.topo_tree.specs.declared.topology.Topology.TheInside.{Inside}
use Rattle.topo_tree.specs.Building.{pu_numbers, node_numbers, IsBuilt}
use Rattle.topo_tree.specs.TableLists.{depth_counts, depth_sets}

-- the counts and numbers are those of the description
pub record IsNumbered (inside : TreeInside) : Type 0 where
  pub built : IsBuilt inside.description
  pub counts : inside.counts.items ≡ depth_counts inside.description.levels
  pub numbers : inside.numbers.items ≡ pu_numbers inside.description
  pub nodes : inside.nodes.items ≡ node_numbers inside.description

-- the sets are those of the description
abbrev pub IsTabled : Inside → Type 0
IsTabled inside = map (λ depth. depth.items) inside.sets.items ≡ depth_sets (pu_numbers inside.tree) inside.tree.levels
