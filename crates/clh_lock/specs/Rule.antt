-- The words of a CLH lock, its part of the rule, and its queue as a function of words and views.
use Rattle.std.specs.Prelude.{◌≡◌, ℕ, zero, suc, ◌+◌, Bool, true, false, cond, ◌&&◌, ◌||◌}
use Rattle.std.specs.Prelude.{List, [], ◌∷◌, ◌++◌, replicate, slice_index, slice_set, nat_le, ◌==◌}
use Rattle.std.specs.List.{sum_by}
use mathlib.Core.Option.{some}
use lib.ListN.{get_elem?}
use Rattle.lock_rules.specs.Rows.{line, row_of}
use Rattle.lock_rules.specs.Views.{spent_view}
use Rattle.lock_rules.specs.declared.view.Algorithm.TheVariants.{Clh}
use Rattle.lock_rules.specs.declared.view.View.{View}
use Rattle.lock_tables.specs.Numbers.{by_node, stands_in}
use Rattle.lock_tables.specs.Rule.{Discipline, is_busy, busy}

-- the word that names the node of the last pass in the queue, and the flag of a node
abbrev pub tail : ℕ
tail = line 0

abbrev pub flag : ℕ → ℕ
flag node = line (node + 1)

-- a flag that is pending, and one that is granted
abbrev pub pending : ℕ
pending = 1

abbrev pub granted : ℕ
granted = 0

-- the words at the start: each flag is granted, and `tail` is the node that no pass has
abbrev pub opens : ℕ → List ℕ
opens n = slice_set (replicate (row_of Clh n) granted) tail n

-- what the pass in the queue with this node knows
abbrev pub owner_of : List View → ℕ → View
owner_of [] node = spent_view
owner_of (v ∷ vs) node = cond (is_busy false v.phase && v.node == node) v (owner_of vs node)

-- the count passes up to the one that has this node, each behind the one whose node it watches
abbrev pub passes_to : List View → ℕ → ℕ → List ℕ
passes_to views zero node = []
passes_to views (suc count) node = passes_to views count (owner_of views node).predecessor ++ (owner_of views node).number ∷ []

-- from `tail` back, as many as are queued or hold
abbrev pub queue_of : List ℕ → List View → List ℕ
queue_of words views = passes_to views (sum_by (busy false) views) (slice_index words tail)

-- The seats stand one behind another, from the node `first` to the node `last`: the first seat's predecessor is `first`, that of
-- each other one is the own node of the seat before it, and the last seat's own node is `last`
abbrev pub Leads : List View → ℕ → List ℕ → ℕ → Type 0
Leads views first [] last = last ≡ first
Leads views first (j ∷ js) last = (v : View) → get_elem? views j ≡ some v → (v.predecessor ≡ first) × Leads views v.node js last

-- the pass is in the queue, or has stored its flag for the swap to come
abbrev pub is_pending : View → Bool
is_pending v = is_busy false v.phase || v.raised

-- The nodes of a lock with n passes, whose queue is that of these seats
pub record HasNodes (n : ℕ) (words : List ℕ) (seats : List ℕ) (views : List View) : Type 0 where
  -- One node is free. The free node, and the nodes that the seats have, that are not split off yet and that were taken over by
  -- joining, are 0 to n, each once
  pub free : ℕ
  pub once : (k : ℕ) → sum_by (stands_in by_node k) views + cond (free == k) 1 0 ≡ cond (nat_le k n) 1 0
  -- the free node is the head's predecessor, and `tail` is the own node of the last seat, or the free node where the queue is empty
  pub leads : Leads views free seats (slice_index words tail)
  pub free_granted : slice_index words (flag free) ≡ granted
  pub own_pending : (j : ℕ) (v : View) → get_elem? views j ≡ some v → v.spent ≡ false → is_pending v ≡ true
      → slice_index words (flag v.node) ≡ pending

abbrev pub clh_discipline : Discipline
clh_discipline = record {
  algorithm = Clh;
  lingers = false;
  opens = opens;
  Core = HasNodes;
  queue = queue_of;
}
