-- What the rule of an MCS lock says of its words.
use Rattle.std.specs.Prelude.{◌≡◌, ◌⊎◌, ℕ, suc, Bool, true, List, [], slice_get, slice_index, Option, Some}
use Rattle.atomic_table.specs.Table.{State}
use Rattle.lock_rules.specs.Tag.{Tag}
use Rattle.lock_rules.specs.declared.view.View.{View}
use Rattle.lock_rules.specs.declared.view.Waiters.{Waiters}
use Rattle.lock_tables.specs.Points.{IsAt}
use Rattle.lock_tables.specs.Rule.{is_holder, IsLock}
use Rattle.mcs_lock.specs.Rule.{tail, next, locked, name, queue_of, mcs_discipline}

-- p is the pass behind the place i of the queue, and has stored its link
pub record IsLinkedBehind (queue : List ℕ) (views : List View) (i p : ℕ) : Type 0 where
  pub place : slice_get queue (suc i) ≡ Some p
  pub seat : ℕ
  pub view : View
  pub at : IsAt views seat view
  pub pass : view.number ≡ p
  pub linked : view.linked ≡ true

-- the words of a lock that has this queue
pub record HasLinks (queue words : List ℕ) (views : List View) : Type 0 where
  -- `tail` is 0 exactly where the queue is empty
  pub empty : queue ≡ [] → slice_index words tail ≡ 0
  pub only_empty : slice_index words tail ≡ 0 → queue ≡ []
  -- `next` of a pass in the queue is 0, or names the pass that has it before it and has stored its link
  pub links : (i p : ℕ) → slice_get queue i ≡ Some p
      → (slice_index words (next p) ≡ 0) ⊎ ((r : ℕ) × (slice_index words (next p) ≡ name r) × IsLinkedBehind queue views i r)
  -- a pass that stored its words for the swap to come has `next` 0 and `locked` 1
  pub unlinked : (j : ℕ) (v : View) → IsAt views j v → v.unlinked ≡ true → slice_index words (next v.number) ≡ 0
  pub raised : (j : ℕ) (v : View) → IsAt views j v → v.raised ≡ true → slice_index words (locked v.number) ≡ 1
  -- a holder whose exchange of `tail` found another pass has one behind it
  pub followed : (j : ℕ) (v : View) → IsAt views j v → is_holder true v.phase ≡ true → v.followed ≡ true
      → (p : ℕ) × (slice_get queue 1 ≡ Some p)

module _ {V : Type 0} (fit : V → Type 0) (tag_of : V → Tag) (parked : V → Bool) where
  abbrev pub RuleHasLinks : Type 0
  RuleHasLinks = (c : Waiters) (n : ℕ) (tag : Tag) (s : State (Option V) View) → IsLock mcs_discipline fit tag_of parked c n tag s
      → HasLinks (queue_of s.words s.views) s.words s.views
