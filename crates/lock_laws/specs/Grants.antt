-- What the rule of a Hemlock says of the passes that leave.
use Rattle.std.specs.Prelude.{◌≡◌, ◌≢◌, ◌⊎◌, ℕ, Bool, true, List, [], slice_index, slice_get, Option, Some}
use Rattle.atomic_table.specs.Table.{State}
use Rattle.lock_rules.specs.Tag.{Tag}
use Rattle.lock_rules.specs.declared.view.Phase.TheVariants.{Holding, Leaving}
use Rattle.lock_rules.specs.declared.view.View.{View}
use Rattle.lock_rules.specs.declared.view.Waiters.{Waiters}
use Rattle.lock_tables.specs.Points.{IsAt}
use Rattle.lock_tables.specs.Queue.{IsIn, IsHead}
use Rattle.lock_tables.specs.Rule.{IsLock}
use Rattle.hemlock_lock.specs.Kinds.{own_name}
use Rattle.hemlock_lock.specs.Rule.{tail, grant, queue_of, hemlock_discipline}

module _ (words : List ℕ) (views : List View) where
  -- the grant of the pass with the view v is 1, and exactly the head of the queue names it
  pub record IsGranting (v : View) : Type 0 where
    pub granted : slice_index words (grant (own_name v)) ≡ 1
    pub followed : (p : ℕ) × IsHead p (queue_of words views)
    pub by_head : (j : ℕ) (u : View) → IsAt views j u → IsHead u.number (queue_of words views) → u.predecessor ≡ own_name v
    pub by_no_other : (j : ℕ) (u : View) → IsAt views j u → u.predecessor ≡ own_name v → IsHead u.number (queue_of words views)

  -- its grant is 0, and no pass names it
  pub record IsCleared (v : View) : Type 0 where
    pub cleared : slice_index words (grant (own_name v)) ≡ 0
    pub by_none : (j : ℕ) (u : View) → IsAt views j u → u.predecessor ≢ own_name v

  pub record LeaveByGrants : Type 0 where
    -- `tail` is 0 exactly where the queue is empty
    pub none_last : queue_of words views ≡ [] → slice_index words tail ≡ 0
    pub none_queued : slice_index words tail ≡ 0 → queue_of words views ≡ []
    -- a pass that isn't leaving has the grant 0
    pub kept : (j : ℕ) (v : View) → IsAt views j v → ¬ (v.phase ≡ Leaving) → slice_index words (grant (own_name v)) ≡ 0
    -- a pass that is leaving isn't in the queue, and grants the lock to the head or is cleared
    pub out : (j : ℕ) (v : View) → IsAt views j v → v.phase ≡ Leaving → ¬ IsIn v.number (queue_of words views)
    pub leaves : (j : ℕ) (v : View) → IsAt views j v → v.phase ≡ Leaving → IsGranting v ⊎ IsCleared v
    -- a holder whose exchange of `tail` found another has a pass behind it
    pub followed : (j : ℕ) (v : View) → IsAt views j v → v.phase ≡ Holding → v.followed ≡ true
        → (p : ℕ) × (slice_get (queue_of words views) 1 ≡ Some p)

module _ {V : Type 0} (fit : V → Type 0) (tag_of : V → Tag) (parked : V → Bool) where
  abbrev pub RuleHasGrants : Type 0
  RuleHasGrants = (c : Waiters) (n : ℕ) (tag : Tag) (s : State (Option V) View) → IsLock hemlock_discipline fit tag_of parked c n tag s
      → LeaveByGrants s.words s.views
