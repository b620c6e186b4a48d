-- What each call of a Hemlock did: its steps on words, the views that its token then has, and the events.
use Rattle.std.specs.Prelude.{◌≡◌, ◌≢◌, ◌⊎◌, ℕ, Bool, [], ◌∷◌, Some, None}
use Rattle.atomic_table.specs.declared.badge.Badge.{Badge}
use Rattle.lock_rules.specs.Holders.{held_view}
use Rattle.lock_rules.specs.Tag.{Tag}
use Rattle.lock_rules.specs.Tokens.{view_of}
use Rattle.lock_rules.specs.declared.held.Held.{Held}
use Rattle.lock_rules.specs.declared.view.Phase.TheVariants.{Leaving}
use Rattle.lock_rules.specs.declared.view.View.{View}
use Rattle.lock_tables.specs.Calls.{HasMissedBy, HasAskedBy}
use Rattle.lock_tables.specs.Counting.{HasAnnounced, HasWithdrawn}
use Rattle.lock_tables.specs.Happened.{Seated, announced_view}
use Rattle.lock_tables.specs.Kinds.{StepKind, Made}
use Rattle.hemlock_lock.specs.Kinds.{own_name, entered_view, granted_view, cleared_view, followed_view, left_view, others_wait, swap_tail}
use Rattle.hemlock_lock.specs.Kinds.{load_predecessor_grant, clear_predecessor_grant, load_tail, exchange_tail, store_grant, load_grant}
use Rattle.hemlock_lock.specs.Rule.{hemlock_discipline}

module _ {V : Type 0} where
  -- a holder that has put its value back and granted
  abbrev pub granted : Held V → Seated V
  granted h = (left_view Leaving (followed_view (held_view h)), [])

module _ {V : Type 0} (fit : V → Type 0) (tag_of : V → Tag) (parked : V → Bool) where
  -- the record of a step of this kind
  abbrev pub HasMade : StepKind → Seated V → ℕ → Seated V → Type 0
  HasMade = Made hemlock_discipline fit tag_of parked

  -- what a call that enters did first
  abbrev pub HasAnnouncedFirst : View → Type 0
  HasAnnouncedFirst v = HasAnnounced {V = V} hemlock_discipline fit tag_of parked v.waiters (v, []) (announced_view v, [])

  -- what a call that took did last, of a seat that took with this view
  abbrev pub HasWithdrawnLast : View → Held V → Type 0
  HasWithdrawnLast v now = HasWithdrawn hemlock_discipline fit tag_of parked v.waiters (v, (0, None) ∷ []) (held_view now, (0, None) ∷ [])

  -- the pass was announced, where the lock counts; the swap of `tail` found another
  pub record HasQueued (before after : Badge View) : Type 0 where
    pub announced : HasAnnouncedFirst (view_of before)
    pub found : ℕ
    pub other : found ≢ 0
    pub step : HasMade swap_tail (announced_view (view_of before), []) found (view_of after, [])

  -- the pass was announced, where the lock counts; the swap of `tail` found 0; the value that was at home is the holder's, which is no
  -- longer announced
  pub record HasTakenAtOnce (before : Badge View) (after : Held V) : Type 0 where
    pub announced : HasAnnouncedFirst (view_of before)
    pub found : ℕ
    pub none : found ≡ 0
    pub swap : HasMade swap_tail (announced_view (view_of before), []) found
        (entered_view (announced_view (view_of before)), (0, Some after.value) ∷ [])
    pub withdrawn : HasWithdrawnLast (entered_view (announced_view (view_of before))) after

  -- a load of the predecessor's grant that did not show 1
  abbrev pub HasMissed : Badge View → Badge View → Type 0
  HasMissed = HasMissedBy hemlock_discipline fit tag_of parked load_predecessor_grant (λ v. 1)

  -- a load of the predecessor's grant that showed 1, and the store of 0 there; the value that was at home is the holder's, which is no
  -- longer announced
  pub record HasTaken (before : Badge View) (after : Held V) : Type 0 where
    pub found : ℕ
    pub shown : found ≡ 1
    pub load : HasMade load_predecessor_grant (view_of before, []) found (granted_view (view_of before), (0, Some after.value) ∷ [])
    pub was : ℕ
    pub clear : HasMade clear_predecessor_grant (granted_view (view_of before), (0, Some after.value) ∷ []) was
        (cleared_view (granted_view (view_of before)), (0, Some after.value) ∷ [])
    pub withdrawn : HasWithdrawnLast (cleared_view (granted_view (view_of before))) after

  -- a load of `tail`, with a yes exactly where it named another than the holder; in a counted lock a load of `waiting`
  abbrev pub HasAsked : Held V → Held V → Bool → Type 0
  HasAsked before = HasAskedBy hemlock_discipline fit tag_of parked load_tail others_wait (held_view before).waiters before

  -- the exchange of `tail` from the own name to 0; the holder's value is at home then
  abbrev pub HasLeft : Held V → Badge View → Type 0
  HasLeft before now = (found : ℕ) × (found ≡ own_name (held_view before))
      × HasMade exchange_tail (held_view before, (0, Some before.value) ∷ []) found (view_of now, [])

  -- the exchange of `tail`, which found another, and the store of 1 in the own grant; the holder's value is at home then
  pub record HasGranted (before : Held V) : Type 0 where
    pub found : ℕ
    pub other : found ≢ own_name (held_view before)
    pub exchange : HasMade exchange_tail (held_view before, (0, Some before.value) ∷ []) found
        (followed_view (held_view before), (0, Some before.value) ∷ [])
    pub was : ℕ
    pub store : HasMade store_grant (followed_view (held_view before), (0, Some before.value) ∷ []) was (granted before)

  -- a load of the own grant that showed 0
  abbrev pub HasDone : Seated V → Badge View → Type 0
  HasDone me now = (found : ℕ) × (found ≡ 0) × HasMade load_grant me found (view_of now, [])

  -- a load of the own grant that did not show 0
  abbrev pub HasWaited : Seated V → Seated V → Type 0
  HasWaited me now = (found : ℕ) × (found ≢ 0) × HasMade load_grant me found now

  -- a release that is done: `tail` named the holder, or the grant was cleared at once
  abbrev pub HasReleased : Held V → Badge View → Type 0
  HasReleased before now = HasLeft before now ⊎ (HasGranted before × HasDone (granted before) now)

  -- a release that isn't: the grant was not cleared yet
  abbrev pub HasBegunToLeave : Held V → Seated V → Type 0
  HasBegunToLeave before now = HasGranted before × HasWaited (granted before) now
