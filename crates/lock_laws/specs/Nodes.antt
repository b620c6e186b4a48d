-- What the rule of a CLH lock says of its nodes.
use Rattle.std.specs.Prelude.{◌≡◌, ℕ, ◌≤◌, Bool, true, List, [], slice_index, Option}
use Rattle.atomic_table.specs.Table.{State}
use Rattle.lock_rules.specs.Tag.{Tag}
use Rattle.lock_rules.specs.declared.view.View.{View}
use Rattle.lock_rules.specs.declared.view.Waiters.{Waiters}
use Rattle.lock_tables.specs.Numbers.{by_node}
use Rattle.lock_tables.specs.Points.{IsAt, Has, HasOneSeat}
use Rattle.lock_tables.specs.Queue.{IsHead}
use Rattle.lock_tables.specs.Rule.{IsLock}
use Rattle.clh_lock.specs.Rule.{tail, flag, pending, granted, queue_of, is_pending, clh_discipline}

-- the nodes of a lock with n passes, which has this queue
pub record AreNodes (n : ℕ) (queue : List ℕ) (words : List ℕ) (views : List View) : Type 0 where
  -- of the nodes 0 to n one is free, and each other one has exactly one seat
  pub free : ℕ
  pub free_within : free ≤ n
  pub one_owner : (k : ℕ) → k ≤ n → ¬ (k ≡ free) → HasOneSeat by_node k views
  pub unowned : (j : ℕ) (v : View) → IsAt views j v → ¬ Has by_node free v
  pub no_other : (k j : ℕ) (v : View) → IsAt views j v → Has by_node k v → k ≤ n
  -- the free node is `tail` where the queue is empty, and else the one that the head watches
  pub empty : queue ≡ [] → slice_index words tail ≡ free
  pub watched : (j : ℕ) (v : View) → IsAt views j v → IsHead v.number queue → v.predecessor ≡ free
  -- it is granted, and the own node of a pass that is queued, holds or has stored its flag is pending
  pub free_granted : slice_index words (flag free) ≡ granted
  pub own_pending : (j : ℕ) (v : View) → IsAt views j v → is_pending v ≡ true → slice_index words (flag v.node) ≡ pending

module _ {V : Type 0} (fit : V → Type 0) (tag_of : V → Tag) (parked : V → Bool) where
  abbrev pub RuleHasNodes : Type 0
  RuleHasNodes = (c : Waiters) (n : ℕ) (tag : Tag) (s : State (Option V) View) → IsLock clh_discipline fit tag_of parked c n tag s
      → AreNodes n (queue_of s.words s.views) s.words s.views
