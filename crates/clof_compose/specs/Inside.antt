-- What a contract reads of a composed lock: the locks inside it, and what it keeps beside them.
use Rattle.std.specs.Prelude.{ℕ, List, vec_capacity}
use Rattle.clof_compose.specs.Nodes.{locks_of}
use Rattle.clof_compose.specs.declared.level.Level.{Level}
use Rattle.clof_compose.specs.declared.node.Node.{Node}
use Rattle.clof_compose.specs.declared.top.Top.{Top}

module _ {B L : Type 0} where
  -- the basic lock of a top lock
  abbrev pub top_lock : Top B L → B
  top_lock t = t.low

  -- the number of its level
  abbrev pub top_number : Top B L → ℕ
  top_number t = t.level

  -- the list that it keeps for its basic passes, and how many it has room for
  abbrev pub top_list : Top B L → List L
  top_list t = t.list.items

  abbrev pub top_room : Top B L → ℕ
  top_room t = vec_capacity t.list

module _ {B H L HL : Type 0} where
  -- the lock above a level
  abbrev pub high_lock : Level B H L HL → H
  high_lock l = l.high

  -- the number of the level, and how often in a row it keeps the high lock
  abbrev pub level_number : Level B H L HL → ℕ
  level_number l = l.level

  abbrev pub level_keep : Level B H L HL → ℕ
  level_keep l = l.keep

  -- its nodes, in the order of their numbers, and their basic locks
  abbrev pub level_nodes : Level B H L HL → List (Node B L)
  level_nodes l = l.nodes.items

  abbrev pub node_locks : Level B H L HL → List B
  node_locks l = locks_of (level_nodes l)

  -- for each of its contexts, the node above it
  abbrev pub parents_of : Level B H L HL → List ℕ
  parents_of l = l.parents.items

  -- the list that it keeps for the passes of the high lock, and how many it has room for
  abbrev pub level_list : Level B H L HL → List HL
  level_list l = l.list.items

  abbrev pub level_room : Level B H L HL → ℕ
  level_room l = vec_capacity l.list
