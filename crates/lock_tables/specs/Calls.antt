-- What a call of a lock did: its step on a word, of a kind of the algorithm, the view that its token then has, and the event.
use Rattle.std.specs.Prelude.{◌≡◌, ◌≢◌, ℕ, Bool, [], ◌∷◌, None, Some}
use Rattle.atomic_table.specs.declared.badge.Badge.{Badge}
use Rattle.lock_rules.specs.Holders.{held_view}
use Rattle.lock_rules.specs.Tag.{Tag}
use Rattle.lock_rules.specs.Tokens.{view_of}
use Rattle.lock_rules.specs.declared.held.Held.{Held}
use Rattle.lock_rules.specs.declared.view.View.{View}
use Rattle.lock_rules.specs.declared.view.Waiters.{Waiters}
use Rattle.lock_rules.specs.declared.view.Waiters.TheVariants.{Queue, Count}
use Rattle.lock_tables.specs.Counting.{is_announced, Counted, HasWithdrawn}
use Rattle.lock_tables.specs.Happened.{took_view}
use Rattle.lock_tables.specs.Kinds.{StepKind, Made}
use Rattle.lock_tables.specs.Rule.{Discipline}

module _ (d : Discipline) {V : Type 0} (fit : V → Type 0) (tag_of : V → Tag) (parked : V → Bool) where
  -- a load by a queued pass that did not show what it waits for
  pub record HasMissedBy (k : StepKind) (awaited : View → ℕ) (before after : Badge View) : Type 0 where
    pub found : ℕ
    pub other : found ≢ awaited (view_of before)
    pub step : Made d fit tag_of parked k (view_of before, []) found (view_of after, [])

  -- a load that showed it; the value that was at home is the holder's. Behind it, in a counted lock, the subtraction from `waiting`
  pub record HasTakenBy (k : StepKind) (awaited : View → ℕ) (before : Badge View) (after : Held V) : Type 0 where
    pub found : ℕ
    pub shown : found ≡ awaited (view_of before)
    pub step : Made d fit tag_of parked k (view_of before, []) found (took_view (view_of before), (0, Some after.value) ∷ [])
    pub withdrawn : HasWithdrawn d fit tag_of parked (view_of before).waiters (took_view (view_of before), (0, None) ∷ [])
        (held_view after, (0, None) ∷ [])

  -- a load of this kind, with a yes exactly where what it found says so; in a counted lock a load of `waiting`, with a yes exactly where it
  -- was not 0
  abbrev pub HasAskedBy : StepKind → (View → ℕ → Bool) → Waiters → Held V → Held V → Bool → Type 0
  HasAskedBy k says Queue before now answer = (found : ℕ) × (answer ≡ says (held_view before) found)
      × Made d fit tag_of parked k before.seat.seat.me found now.seat.seat.me
  HasAskedBy k says Count before now answer = (found : ℕ) × (answer ≡ is_announced found)
      × Counted d fit tag_of parked before.seat.seat.me found now.seat.seat.me

  -- a step by which a holder, whose value is at home then, leaves
  abbrev pub HasLeftBy : StepKind → Held V → Badge View → Type 0
  HasLeftBy k before now = (found : ℕ) × Made d fit tag_of parked k (held_view before, (0, Some before.value) ∷ []) found (view_of now, [])
