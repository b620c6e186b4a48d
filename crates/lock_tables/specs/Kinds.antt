-- A kind of atomic step on the words of a lock, as data of its algorithm.
use Rattle.std.specs.Prelude.{◌≡◌, ◌≢◌, ℕ, ◌+◌, ◌%◌, ◌^◌, Bool, true, false, ◌||◌}
use Rattle.atomic_table.specs.Table.{keeps, gives}
use Rattle.lock_rules.specs.Hands.{HasKept}
use Rattle.lock_rules.specs.Tag.{Tag}
use Rattle.lock_rules.specs.declared.view.View.{View}
use Rattle.lock_tables.specs.Happened.{Seated, Stepped, SteppedAndTook}
use Rattle.lock_tables.specs.Queue.{Enters, Takes, EntersAndTakes, Leaves, Stays}
use Rattle.lock_tables.specs.Rule.{Discipline, IsLock}

-- what a step does with its word
pub data Form : Type 0 where
  load : Form
  store : Form
  swap : Form
  add : Form
  exchange : Form

-- the word after a step with this operand that found a number, where an exchange found what it expects, and where not
abbrev pub written : Form → ℕ → ℕ → ℕ
written load operand found = found
written store operand found = operand
written swap operand found = operand
written add operand found = (found + operand) % 2 ^ 64
written exchange operand found = operand

abbrev pub written_else : Form → ℕ → ℕ → ℕ
written_else load operand found = found
written_else store operand found = operand
written_else swap operand found = operand
written_else add operand found = (found + operand) % 2 ^ 64
written_else exchange operand found = found

-- what a step is to the queue
pub data Event : Type 0 where
  no_event : Event
  enter : Event
  take : Event
  enter_and_take : Event
  leave : Event

-- its event, and the view after it, of the view before and the number found
pub record Move : Type 0 where
  pub event : Event
  pub after : View → ℕ → View

-- One move whatever is found, or one where this number is found and another where it isn't. It is the number that an exchange expects
pub data Outcome : Type 0 where
  always : Move → Outcome
  showing : (View → ℕ) → Move → Move → Outcome

-- A kind of step. All but the form depend on the view of the seat that steps
pub record StepKind : Type 1 where
  pub form : Form
  -- the word, and the operand of any but a load
  pub word : View → ℕ
  pub operand : View → ℕ
  -- what it asks of the view, and what the rule tells of the number found
  pub asks : View → Type 0
  pub tells : View → ℕ → Type 0
  pub outcome : Outcome

-- an exchange that expects this number
abbrev pub Expects : Outcome → View → ℕ → Type 0
Expects (always m) v expected = ⊥
Expects (showing this m other) v expected = expected ≡ this v

-- the step may give back the slot
abbrev pub gives_by : Event → Bool
gives_by no_event = false
gives_by enter = false
gives_by take = false
gives_by enter_and_take = false
gives_by leave = true

abbrev pub may_give : Outcome → Bool
may_give (always m) = gives_by m.event
may_give (showing this m other) = gives_by m.event || gives_by other.event

module _ {V : Type 0} (fit : V → Type 0) (tag_of : V → Tag) (parked : V → Bool) where
  -- who may give back has the slot in hand, with a value in it that may rest
  abbrev pub Carries : Bool → Seated V → Type 0
  Carries false me = Unit {0}
  Carries true me = HasKept fit tag_of parked true me.0 me.1

module _ (d : Discipline) {V : Type 0} (fit : V → Type 0) (tag_of : V → Tag) (parked : V → Bool) where
  -- the record of a step with this event, which found a number in this word, made it `now`, and gave its seat the view w
  abbrev pub Did : Event → ℕ → ℕ → ℕ → Seated V → View → Seated V → Type 0
  Did no_event word found now me w me' = Stepped (IsLock d fit tag_of parked) d.queue Stays keeps word found now me w me'
  Did enter word found now me w me' = Stepped (IsLock d fit tag_of parked) d.queue Enters keeps word found now me w me'
  Did take word found now me w me' = SteppedAndTook (IsLock d fit tag_of parked) d.queue fit tag_of Takes word found now me w me'
  Did enter_and_take word found now me w me' =
      SteppedAndTook (IsLock d fit tag_of parked) d.queue fit tag_of EntersAndTakes word found now me w me'
  Did leave word found now me w me' = Stepped (IsLock d fit tag_of parked) d.queue Leaves gives word found now me w me'

  abbrev pub Moved : Form → ℕ → Outcome → ℕ → ℕ → Seated V → Seated V → Type 0
  Moved f operand (always m) word found me me' = Did m.event word found (written f operand found) me (m.after me.0 found) me'
  Moved f operand (showing this m other) word found me me' =
      (found ≡ this me.0 → Did m.event word found (written f operand found) me (m.after me.0 found) me')
      × (found ≢ this me.0 → Did other.event word found (written_else f operand found) me (other.after me.0 found) me')

  -- the record of a step of this kind
  abbrev pub Made : StepKind → Seated V → ℕ → Seated V → Type 0
  Made k me found me' = Moved k.form (k.operand me.0) k.outcome (k.word me.0) found me me'
