-- The record of an atomic step on a word of a lock's table.
use Rattle.std.specs.Prelude.{◌≡◌, ℕ, ◌+◌, cond, false, Bool, true, List, Option, Some, slice_index, slice_set}
use Rattle.atomic_table.specs.Table.{State, Me, Act, takes, Valid, carried_after, stepped}
use mathlib.Core.Option.{some}
use lib.ListN.{get_elem?}
use Rattle.lock_rules.specs.Tag.{Tag}
use Rattle.lock_rules.specs.Views.{answer_of, is_counted}
use Rattle.lock_rules.specs.declared.step.Answer.TheVariants.{Open}
use Rattle.lock_rules.specs.declared.view.Phase.TheVariants.{Holding}
use Rattle.lock_rules.specs.declared.view.View.{View}
use Rattle.lock_rules.specs.declared.view.Waiters.{Waiters}

-- a load that did not show the word that the pass waits for
abbrev pub missed_view : View → View
missed_view v = record v { steps = v.steps + 1; loads = v.loads + 1; ready = false }

-- a load that showed it, by which the pass takes
abbrev pub took_view : View → View
took_view v = record v { phase = Holding; steps = v.steps + 1; loads = v.loads + 1; ready = true; tested = Open; followed = false }

-- a load by `waiter`, with this answer
abbrev pub tested_view : View → Bool → View
tested_view v answer = record v { steps = v.steps + 1; loads = v.loads + 1; tested = answer_of answer }

-- how many steps of its own a counted lock makes to raise its count, or to lower it; the others make none
abbrev pub counting : Waiters → ℕ
counting c = cond (is_counted c) 1 0

-- the pass is announced where the lock counts
abbrev pub announced_view : View → View
announced_view v = record v { steps = v.steps + counting v.waiters; announced = is_counted v.waiters }

-- the pass isn't announced any more
abbrev pub withdrawn_view : View → View
withdrawn_view v = record v { steps = v.steps + counting v.waiters; announced = false }

-- what a seat knows, and the slots that it has in hand
abbrev pub Seated : Type 0 → Type 0
Seated V = Me (Option V) View

-- `rule` is the rule of a lock with this choice, this many passes and this tag. `queue_of` is what the events of a step speak of, as a
-- function of words and views
module _ {V Q : Type 0} (rule : Waiters → ℕ → Tag → State (Option V) View → Type 0) (queue_of : List ℕ → List View → Q) where
  -- A step of a seat that was `before` and is `after`: in some state of the table that the rule allows, of a lock with the choice, the
  -- passes and the tag that the seat knows, the word with this index was `found`. The step made it `now`, gave the seat its new view, and
  -- did `act` with the slot; all other words and views, and the slot where there is no act, stayed. The rule allows the state that it came
  -- to, and the queue changed as the event says
  pub record Happened (event : ℕ → Q → Q → Type 0) (act : Act (Option V)) (word found now : ℕ) (before after : Seated V) : Type 0 where
    pub seat : ℕ
    pub state : State (Option V) View
    pub allowed : rule before.0.waiters before.0.count before.0.tag.tag state
    pub knew : get_elem? state.views seat ≡ some before.0
    pub was : slice_index state.words word ≡ found
    pub acted : Valid state.homes before.1 act
    pub carries : after.1 ≡ carried_after before.1 act
    pub next_allowed : rule before.0.waiters before.0.count before.0.tag.tag (stepped state word now seat before.1 after.0 act)
    pub queue : event before.0.number (queue_of state.words state.views)
        (queue_of (slice_set state.words word now) (slice_set state.views seat after.0))

  -- the step that happened gave the seat this view
  abbrev pub Stepped : (ℕ → Q → Q → Type 0) → Act (Option V) → ℕ → ℕ → ℕ → Seated V → View → Seated V → Type 0
  Stepped event act word found now me w me' = (me' ≡ (w, carried_after me.1 act)) × Happened event act word found now me me'

  -- the same with a Take: the value that was at home in the slot is fit and has the tag that the seat knows
  abbrev pub SteppedAndTook : (V → Type 0) → (V → Tag) → (ℕ → Q → Q → Type 0) → ℕ → ℕ → ℕ → Seated V → View → Seated V → Type 0
  SteppedAndTook fit tag_of event word found now me w me' = (x : V) × fit x × (tag_of x ≡ me.0.tag.tag)
      × Stepped event (takes 0 (Some x)) word found now me w me'
