-- What each call of an MCS lock did: its steps on words, the view that its token then has, and the events.
use Rattle.std.specs.Prelude.{◌≡◌, ◌≢◌, ◌⊎◌, ℕ, Bool, [], ◌∷◌, Some, None}
use Rattle.atomic_table.specs.declared.badge.Badge.{Badge}
use Rattle.lock_rules.specs.Holders.{held_view}
use Rattle.lock_rules.specs.Tag.{Tag}
use Rattle.lock_rules.specs.Tokens.{view_of}
use Rattle.lock_rules.specs.declared.held.Held.{Held}
use Rattle.lock_rules.specs.declared.view.View.{View}
use Rattle.lock_tables.specs.Calls.{HasMissedBy, HasTakenBy, HasAskedBy}
use Rattle.lock_tables.specs.Counting.{HasAnnounced, HasWithdrawn}
use Rattle.lock_tables.specs.Happened.{Seated, announced_view}
use Rattle.lock_tables.specs.Kinds.{StepKind, Made}
use Rattle.mcs_lock.specs.Kinds.{cleared_view, raised_view, queued_view, entered_view, looked_view, others_wait, store_next, store_locked}
use Rattle.mcs_lock.specs.Kinds.{fetch_and_store_tail, store_predecessor_next, load_locked, load_tail, load_next, store_successor_locked}
use Rattle.mcs_lock.specs.Kinds.{compare_and_swap_tail}
use Rattle.mcs_lock.specs.Rule.{name, mcs_discipline}

-- the view of a pass that is announced where the lock counts, and has stored both words for its swap
abbrev pub ready_view : View → View
ready_view v = raised_view (cleared_view (announced_view v))

module _ {V : Type 0} where
  -- a holder that has put its value back
  abbrev pub at_home : Held V → Seated V
  at_home h = (held_view h, (0, Some h.value) ∷ [])

  -- a holder that then looked at its `next`
  abbrev pub looked : Seated V → ℕ → Seated V
  looked me found = (looked_view me.0 found, me.1)

module _ {V : Type 0} (fit : V → Type 0) (tag_of : V → Tag) (parked : V → Bool) where
  -- the record of a step of this kind, and what the rule tells of the number found
  abbrev pub HasMade : StepKind → Seated V → ℕ → Seated V → Type 0
  HasMade k me found me' = k.tells me.0 found × Made mcs_discipline fit tag_of parked k me found me'

  abbrev pub HasStored : StepKind → Seated V → Seated V → Type 0
  HasStored k me me' = (found : ℕ) × HasMade k me found me'

  -- where the lock counts, the addition to `waiting`; then the stores of own `next` and of own `locked`
  pub record HasPrepared (v : View) : Type 0 where
    pub announced : HasAnnounced {V = V} mcs_discipline fit tag_of parked v.waiters (v, []) (announced_view v, [])
    pub cleared : HasStored store_next (announced_view v, []) (cleared_view (announced_view v), [])
    pub raised : HasStored store_locked (cleared_view (announced_view v), []) (ready_view v, [])

  -- the swap, which found a predecessor, and the store of its `next`
  pub record HasEntered (before after : Badge View) : Type 0 where
    pub prepared : HasPrepared (view_of before)
    pub found : ℕ
    pub preceded : found ≢ 0
    pub entered : HasMade fetch_and_store_tail (ready_view (view_of before), []) found (queued_view (ready_view (view_of before)) found, [])
    pub linked : HasStored store_predecessor_next (queued_view (ready_view (view_of before)) found, []) (view_of after, [])

  -- the swap, which found none; the value that was at home is the holder's. In a counted lock the subtraction from `waiting` is last
  pub record HasEnteredAndTaken (before : Badge View) (after : Held V) : Type 0 where
    pub prepared : HasPrepared (view_of before)
    pub found : ℕ
    pub alone : found ≡ 0
    pub entered : HasMade fetch_and_store_tail (ready_view (view_of before), []) found
        (entered_view (ready_view (view_of before)), (0, Some after.value) ∷ [])
    pub withdrawn : HasWithdrawn mcs_discipline fit tag_of parked (view_of before).waiters
        (entered_view (ready_view (view_of before)), (0, None) ∷ []) (held_view after, (0, None) ∷ [])

  -- a load of own `locked` that was not 0, and one that was
  abbrev pub HasMissed : Badge View → Badge View → Type 0
  HasMissed = HasMissedBy mcs_discipline fit tag_of parked load_locked (λ v. 0)

  abbrev pub HasTaken : Badge View → Held V → Type 0
  HasTaken = HasTakenBy mcs_discipline fit tag_of parked load_locked (λ v. 0)

  -- a load of `tail`, with a yes exactly where it did not name the holder; in a counted lock a load of `waiting`
  abbrev pub HasAsked : Held V → Held V → Bool → Type 0
  HasAsked before = HasAskedBy mcs_discipline fit tag_of parked load_tail others_wait (held_view before).waiters before

  -- a load of own `next`, which named a successor, and the store of its `locked`
  pub record HasPassed (me : Seated V) (after : Badge View) : Type 0 where
    pub found : ℕ
    pub followed : found ≢ 0
    pub loaded : HasMade load_next me found (looked me found)
    pub left : HasStored store_successor_locked (looked me found) (view_of after, [])

  -- a load of own `next`, which was 0, and the exchange of `tail`, which named the holder
  pub record HasEnded (me : Seated V) (after : Badge View) : Type 0 where
    pub loaded : HasMade load_next me 0 (looked me 0)
    pub left : HasMade compare_and_swap_tail (looked me 0) (name me.0.number) (view_of after, [])

  abbrev pub HasLeft : Seated V → Badge View → Type 0
  HasLeft me after = HasPassed me after ⊎ HasEnded me after

  -- a load of own `next`, which was 0, and an exchange of `tail` that found another
  pub record IsFollowed (me now : Seated V) : Type 0 where
    pub loaded : HasMade load_next me 0 (looked me 0)
    pub found : ℕ
    pub other : found ≢ name me.0.number
    pub failed : HasMade compare_and_swap_tail (looked me 0) found now

  -- a load of own `next`, which was 0
  abbrev pub HasWaited : Seated V → Seated V → Type 0
  HasWaited me now = HasMade load_next me 0 now
