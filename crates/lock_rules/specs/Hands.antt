-- Where a pass stands that leaves, and what it has in hand.
use Rattle.std.specs.Prelude.{◌≡◌, ℕ, Bool, true, false, List, [], ◌∷◌, Option, Some}
use Rattle.lock_rules.specs.Tag.{Tag}
use Rattle.lock_rules.specs.declared.step.Answer.TheVariants.{Yes}
use Rattle.lock_rules.specs.declared.view.Algorithm.{Algorithm}
use Rattle.lock_rules.specs.declared.view.Algorithm.TheVariants.{Ticket, Mcs, Clh, Hemlock}
use Rattle.lock_rules.specs.declared.view.Phase.{Phase}
use Rattle.lock_rules.specs.declared.view.Phase.TheVariants.{Idle, Leaving}
use Rattle.lock_rules.specs.declared.view.View.{View}

-- where the pass of a Leave stands. A release of a Ticket or a CLH lock is done with one step, so a pass of theirs has left
abbrev pub phase_left : Algorithm → Phase
phase_left Ticket = Idle
phase_left Mcs = Leaving
phase_left Clh = Idle
phase_left Hemlock = Leaving

-- whether it has the slot in hand: a pass that leaves an MCS lock holds until its last step
abbrev pub keeps_slot : Algorithm → Bool
keeps_slot Ticket = false
keeps_slot Mcs = true
keeps_slot Clh = false
keeps_slot Hemlock = false

-- something is in hand
abbrev pub is_full : {A : Type 0} → List A → Bool
is_full [] = false
is_full (slot ∷ slots) = true

-- what a holder puts back: a fit value of the tag that its seat knows, parked only behind a yes
pub record MayRest {V : Type 0} (fit : V → Type 0) (tag_of : V → Tag) (parked : V → Bool) (v : View) (x : V) : Type 0 where
  pub fits : fit x
  pub tagged : tag_of x ≡ v.tag.tag
  pub relied_on : parked x ≡ true → v.tested ≡ Yes

module _ {V : Type 0} (fit : V → Type 0) (tag_of : V → Tag) (parked : V → Bool) where
  -- the slot is in hand, with a value in it that may rest, or nothing is
  abbrev pub HasKept : Bool → View → List (ℕ × Option V) → Type 0
  HasKept false v hand = hand ≡ []
  HasKept true v hand = (x : V) × (hand ≡ (0, Some x) ∷ []) × MayRest fit tag_of parked v x

  -- what is in hand may stay in its slot
  abbrev pub MayStay : View → List (ℕ × Option V) → Type 0
  MayStay v [] = Unit {0}
  MayStay v (slot ∷ slots) = HasKept true v (slot ∷ slots)
