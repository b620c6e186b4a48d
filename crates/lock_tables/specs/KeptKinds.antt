-- What an algorithm proves of each of its kinds of step, of the words and views alone: the step keeps the rule and makes its event.
use Rattle.std.specs.Prelude.{◌≡◌, ◌≢◌, ◌⊎◌, ℕ, ◌+◌, ◌^◌, ◌<◌, true, false, List, [], ◌∷◌, ◌++◌, length, slice_index, slice_set}
use mathlib.Core.Option.{some}
use lib.ListN.{get_elem?}
use Rattle.lock_rules.specs.Rows.{waiting}
use Rattle.lock_rules.specs.Tag.{Tag}
use Rattle.lock_rules.specs.Views.{is_counted}
use Rattle.lock_rules.specs.declared.step.Answer.TheVariants.{Open, Yes}
use Rattle.lock_rules.specs.declared.view.Phase.TheVariants.{Idle, Queued, Holding}
use Rattle.lock_rules.specs.declared.view.View.{View}
use Rattle.lock_rules.specs.declared.view.Waiters.{Waiters}
use Rattle.lock_tables.specs.Kinds.{Form, load, store, swap, add, exchange, Event, no_event, enter, take, enter_and_take, leave}
use Rattle.lock_tables.specs.Kinds.{Outcome, always, showing, StepKind, written, written_else}
use Rattle.lock_tables.specs.Rule.{Discipline, is_holder, is_busy, is_queued, IsBehind, AreTold, IsQueued}

-- a table under the rule, and the seat that steps
pub record Moment (d : Discipline) : Type 0 where
  pub choice : Waiters
  pub passes : ℕ
  pub tag : Tag
  pub words : List ℕ
  pub seats : List ℕ
  pub views : List View
  pub queued : IsQueued d passes tag words seats views
  pub told : AreTold d.lingers choice words seats views
  pub seat : ℕ
  pub view : View
  pub at : get_elem? views seat ≡ some view
  pub live : view.spent ≡ false

-- no step but a split or a join changes which pass the seat has, and none but those on `waiting` what it has announced
abbrev pub IsSame : View → View → Type 0
IsSame v w = w ≡ record v {
  phase = w.phase;
  steps = w.steps;
  entries = w.entries;
  loads = w.loads;
  ready = w.ready;
  tested = w.tested;
  ticket = w.ticket;
  node = w.node;
  predecessor = w.predecessor;
  unlinked = w.unlinked;
  raised = w.raised;
  linked = w.linked;
  successor = w.successor;
  followed = w.followed;
  owes = w.owes;
}

-- a load is recorded, and no other step changes what loads showed; only a load or a Take changes what the holder asked
abbrev pub IsUnread : Event → View → View → Type 0
IsUnread no_event v w = (w.loads ≡ v.loads) × (w.ready ≡ v.ready) × (w.tested ≡ v.tested)
IsUnread enter v w = (w.loads ≡ v.loads) × (w.ready ≡ v.ready) × (w.tested ≡ v.tested)
IsUnread take v w = (w.loads ≡ v.loads) × (w.ready ≡ v.ready)
IsUnread enter_and_take v w = (w.loads ≡ v.loads) × (w.ready ≡ v.ready)
IsUnread leave v w = (w.loads ≡ v.loads) × (w.ready ≡ v.ready) × (w.tested ≡ v.tested)

abbrev pub IsRead : Form → Event → View → View → Type 0
IsRead load e v w = w.loads ≡ v.loads + 1
IsRead store e v w = IsUnread e v w
IsRead swap e v w = IsUnread e v w
IsRead add e v w = IsUnread e v w
IsRead exchange e v w = IsUnread e v w

-- an entering step is recorded, and no other is recorded as one
abbrev pub IsEntered : Event → View → View → Type 0
IsEntered no_event v w = w.entries ≡ v.entries
IsEntered enter v w = w.entries ≡ v.entries + 1
IsEntered take v w = w.entries ≡ v.entries
IsEntered enter_and_take v w = w.entries ≡ v.entries + 1
IsEntered leave v w = w.entries ≡ v.entries

module _ (d : Discipline) (s : Moment d) (word now : ℕ) (w : View) where
  abbrev pub CoreAfter : List ℕ → Type 0
  CoreAfter seats = d.Core s.passes (slice_set s.words word now) seats (slice_set s.views s.seat w)

  -- no event: the pass goes on to be queued or not, and to hold or not, and a pass that was told of another has one
  pub record IsStill : Type 0 where
    pub calm : (w.phase ≡ s.view.phase) ⊎ ((is_queued w.phase ≡ false) × (w.announced ≡ false))
    pub busy : is_busy d.lingers w.phase ≡ is_busy d.lingers s.view.phase
    pub holds : is_holder d.lingers w.phase ≡ is_holder d.lingers s.view.phase
    pub tested : is_holder d.lingers w.phase ≡ true → w.tested ≡ Yes → (w.announced ≡ false) × IsBehind s.words s.seats
    pub followed : is_holder d.lingers w.phase ≡ true → w.followed ≡ true → 1 < length s.seats
    pub core : CoreAfter s.seats

  -- Enter: an idle pass, announced where the lock counts, goes behind all others
  pub record IsEntry : Type 0 where
    pub idle : s.view.phase ≡ Idle
    pub queued : w.phase ≡ Queued
    pub announced : w.announced ≡ is_counted w.waiters
    pub core : CoreAfter (s.seats ++ s.seat ∷ [])

  -- Take, by a load: a queued pass is the head, and holds
  pub record IsTaking : Type 0 where
    pub loaded : now ≡ slice_index s.words word
    pub queued : s.view.phase ≡ Queued
    pub first : get_elem? s.seats 0 ≡ some s.seat
    pub held : w.phase ≡ Holding
    pub untested : w.tested ≡ Open
    pub alone : w.followed ≡ false
    pub core : CoreAfter s.seats

  -- Enter and Take: the queue was empty, and an idle pass holds
  pub record IsEntryAndTaking : Type 0 where
    pub idle : s.view.phase ≡ Idle
    pub empty : s.seats ≡ []
    pub held : w.phase ≡ Holding
    pub untested : w.tested ≡ Open
    pub alone : w.followed ≡ false
    pub core : CoreAfter (s.seat ∷ [])

  -- Leave: a holder, which isn't announced, goes from the head
  pub record IsLeaving : Type 0 where
    pub silent : s.view.announced ≡ false
    pub held : is_holder d.lingers s.view.phase ≡ true
    pub tail : List ℕ
    pub cut : s.seats ≡ s.seat ∷ tail
    pub free : is_busy d.lingers w.phase ≡ false
    pub unheld : is_holder d.lingers w.phase ≡ false
    pub core : CoreAfter tail

  abbrev pub MakesEvent : Event → Type 0
  MakesEvent no_event = IsStill
  MakesEvent enter = IsEntry
  MakesEvent take = IsTaking
  MakesEvent enter_and_take = IsEntryAndTaking
  MakesEvent leave = IsLeaving

-- what a step with this form and event does to the view of its seat
pub record IsNoted (f : Form) (e : Event) (v w : View) : Type 0 where
  pub same : IsSame v w
  pub steps : w.steps ≡ v.steps + 1
  pub entered : IsEntered e v w
  pub read : IsRead f e v w

abbrev pub IsNotedBy : Form → Outcome → View → ℕ → Type 0
IsNotedBy f (always m) v found = IsNoted f m.event v (m.after v found)
IsNotedBy f (showing this m other) v found = IsNoted f m.event v (m.after v found) × IsNoted f other.event v (other.after v found)

module _ (d : Discipline) (s : Moment d) (word found : ℕ) (f : Form) (operand : ℕ) where
  abbrev pub IsKeptBy : Outcome → Type 0
  IsKeptBy (always m) = MakesEvent d s word (written f operand found) (m.after s.view found) m.event
  IsKeptBy (showing this m other) = (found ≡ this s.view → MakesEvent d s word (written f operand found) (m.after s.view found) m.event)
      × (found ≢ this s.view → MakesEvent d s word (written_else f operand found) (other.after s.view found) other.event)

-- what a step of this kind does at a moment at which it may be made
pub record IsKeptAt (d : Discipline) (k : StepKind) (s : Moment d) : Type 0 where
  pub apart : k.word s.view ≢ waiting
  pub told : k.tells s.view (slice_index s.words (k.word s.view))
  pub kept : IsKeptBy d s (k.word s.view) (slice_index s.words (k.word s.view)) k.form (k.operand s.view) k.outcome

-- each step of this kind is recorded in the view of its seat, and keeps the rule of the algorithm
pub record IsKept (d : Discipline) (k : StepKind) : Type 0 where
  pub noted : (v : View) (found : ℕ) → IsNotedBy k.form k.outcome v found
  pub keeps : (s : Moment d) → k.asks s.view → slice_index s.words (k.word s.view) < 2 ^ 64 → IsKeptAt d k s
