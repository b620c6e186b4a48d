-- What each call of a Ticket lock did: its one step on a word, the view that its token then has, and the event.
use Rattle.std.specs.Prelude.{ℕ, Bool, []}
use Rattle.atomic_table.specs.declared.badge.Badge.{Badge}
use Rattle.lock_rules.specs.Holders.{held_view}
use Rattle.lock_rules.specs.Tag.{Tag}
use Rattle.lock_rules.specs.Tokens.{view_of}
use Rattle.lock_rules.specs.declared.held.Held.{Held}
use Rattle.lock_rules.specs.declared.view.View.{View}
use Rattle.lock_tables.specs.Calls.{HasMissedBy, HasTakenBy, HasAskedBy, HasLeftBy}
use Rattle.lock_tables.specs.Counting.{HasAnnounced}
use Rattle.lock_tables.specs.Happened.{announced_view}
use Rattle.lock_tables.specs.Kinds.{Made}
use Rattle.ticket_lock.specs.Kinds.{others_wait, add_next, load_serving, load_next, store_serving}
use Rattle.ticket_lock.specs.Rule.{ticket_discipline}

module _ {V : Type 0} (fit : V → Type 0) (tag_of : V → Tag) (parked : V → Bool) where
  -- the announcement, where the lock counts, and the addition to `next`, which found the ticket
  pub record HasEntered (before after : Badge View) : Type 0 where
    pub announced : HasAnnounced ticket_discipline fit tag_of parked (view_of before).waiters (view_of before, [])
        (announced_view (view_of before), [])
    pub found : ℕ
    pub step : Made ticket_discipline fit tag_of parked add_next (announced_view (view_of before), []) found (view_of after, [])

  -- a load of `serving` that did not show the ticket, and one that did
  abbrev pub HasMissed : Badge View → Badge View → Type 0
  HasMissed = HasMissedBy ticket_discipline fit tag_of parked load_serving (λ v. v.ticket)

  abbrev pub HasTaken : Badge View → Held V → Type 0
  HasTaken = HasTakenBy ticket_discipline fit tag_of parked load_serving (λ v. v.ticket)

  -- a load of `next`, with a yes exactly where it was not the ticket behind the holder's; in a counted lock a load of `waiting`
  abbrev pub HasAsked : Held V → Held V → Bool → Type 0
  HasAsked before = HasAskedBy ticket_discipline fit tag_of parked load_next others_wait (held_view before).waiters before

  -- the store of the next ticket in `serving`
  abbrev pub HasLeft : Held V → Badge View → Type 0
  HasLeft = HasLeftBy ticket_discipline fit tag_of parked store_serving
