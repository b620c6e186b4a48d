-- What each call of a CLH lock did: its steps on words, the view that its token then has, and the event.
use Rattle.std.specs.Prelude.{ℕ, ◌≤◌, Bool, []}
use Rattle.atomic_table.specs.declared.badge.Badge.{Badge}
use Rattle.lock_rules.specs.Holders.{held_view}
use Rattle.lock_rules.specs.Tag.{Tag}
use Rattle.lock_rules.specs.Tokens.{view_of}
use Rattle.lock_rules.specs.declared.held.Held.{Held}
use Rattle.lock_rules.specs.declared.view.View.{View}
use Rattle.lock_tables.specs.Calls.{HasMissedBy, HasTakenBy, HasAskedBy, HasLeftBy}
use Rattle.lock_tables.specs.Counting.{HasAnnounced}
use Rattle.lock_tables.specs.Happened.{Seated, announced_view}
use Rattle.lock_tables.specs.Kinds.{Made}
use Rattle.clh_lock.specs.Kinds.{others_wait, store_pending, fetch_and_store_tail, load_watched, load_tail, store_granted}
use Rattle.clh_lock.specs.Rule.{granted, clh_discipline}

module _ {V : Type 0} (fit : V → Type 0) (tag_of : V → Tag) (parked : V → Bool) where
  -- in a counted lock the addition to `waiting`; behind it the store of own flag, and behind that the swap of `tail`, which found the
  -- node to watch, one of the lock's
  pub record HasEntered (before after : Badge View) : Type 0 where
    pub announced : HasAnnounced clh_discipline fit tag_of parked (view_of before).waiters (view_of before, [])
        (announced_view (view_of before), [])
    pub between : Seated V
    pub was : ℕ
    pub stored : Made clh_discipline fit tag_of parked store_pending (announced_view (view_of before), []) was between
    pub found : ℕ
    pub node : found ≤ between.0.count
    pub swapped : Made clh_discipline fit tag_of parked fetch_and_store_tail between found (view_of after, [])

  -- a load of the predecessor's flag that did not show it granted, and one that did
  abbrev pub HasMissed : Badge View → Badge View → Type 0
  HasMissed = HasMissedBy clh_discipline fit tag_of parked load_watched (λ v. granted)

  abbrev pub HasTaken : Badge View → Held V → Type 0
  HasTaken = HasTakenBy clh_discipline fit tag_of parked load_watched (λ v. granted)

  -- a load of `tail`, with a yes exactly where it was not the holder's own node; in a counted lock a load of `waiting`
  abbrev pub HasAsked : Held V → Held V → Bool → Type 0
  HasAsked before = HasAskedBy clh_discipline fit tag_of parked load_tail others_wait (held_view before).waiters before

  -- the store of own flag; the node that the holder watched is its own
  abbrev pub HasLeft : Held V → Badge View → Type 0
  HasLeft = HasLeftBy clh_discipline fit tag_of parked store_granted
