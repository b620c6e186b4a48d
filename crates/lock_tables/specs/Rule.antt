-- The rule of the table of a lock, but for what is the algorithm's own.
use Rattle.std.specs.Prelude.{◌≡◌, ◌⊎◌, ℕ, ◌^◌, ◌<◌, Bool, true, false, cond, List, [], ◌∷◌, length, slice_index, Option, Some}
use Rattle.std.specs.List.{sum_by}
use mathlib.Core.Option.{some, none}
use lib.ListN.{get_elem?}
use Rattle.atomic_table.specs.Table.{State}
use Rattle.lock_rules.specs.Rows.{row_of, waiting}
use Rattle.lock_rules.specs.Tag.{Tag}
use Rattle.lock_rules.specs.Views.{is_counted}
use Rattle.lock_rules.specs.declared.step.Answer.TheVariants.{Yes}
use Rattle.lock_rules.specs.declared.view.Algorithm.{Algorithm}
use Rattle.lock_rules.specs.declared.view.Phase.{Phase}
use Rattle.lock_rules.specs.declared.view.Phase.TheVariants.{Idle, Queued, Holding, Leaving}
use Rattle.lock_rules.specs.declared.view.View.{View}
use Rattle.lock_rules.specs.declared.view.Waiters.{Waiters}
use Rattle.lock_tables.specs.Numbers.{HasNumbers}

-- What each algorithm adds
pub record Discipline : Type 1 where
  -- which it is
  pub algorithm : Algorithm
  -- whether a pass that is leaving holds, and stays in the queue, until its step that leaves
  pub lingers : Bool
  -- the words at the start of a lock with n passes
  pub opens : ℕ → List ℕ
  -- what holds of the words and the views of a lock with n passes, whose queue is that of these seats, the head first
  pub Core : ℕ → List ℕ → List ℕ → List View → Type 0
  -- the queue as a function of words and views
  pub queue : List ℕ → List View → List ℕ

-- a pass that holds
abbrev pub is_holder : Bool → Phase → Bool
is_holder lingers Idle = false
is_holder lingers Queued = false
is_holder lingers Holding = true
is_holder lingers Leaving = lingers

-- a pass that is queued or holds
abbrev pub is_busy : Bool → Phase → Bool
is_busy lingers Idle = false
is_busy lingers Queued = true
is_busy lingers Holding = true
is_busy lingers Leaving = lingers

abbrev pub is_queued : Phase → Bool
is_queued Idle = false
is_queued Queued = true
is_queued Holding = false
is_queued Leaving = false

abbrev pub is_leaving : Phase → Bool
is_leaving Idle = false
is_leaving Queued = false
is_leaving Holding = false
is_leaving Leaving = true

abbrev pub busy : Bool → View → ℕ
busy lingers v = cond (is_busy lingers v.phase) 1 0

abbrev pub holding : Bool → View → ℕ
holding lingers v = cond (is_holder lingers v.phase) 1 0

-- What the view of a seat tells; `seats` are the seats of the queue, the head first
pub record SeatStands (lingers : Bool) (n : ℕ) (tag : Tag) (seats : List ℕ) (seat : ℕ) (v : View) : Type 0 where
  -- a seat that is spent is idle, and any other has the lock's tag and knows how many passes there are
  pub tagged : v.spent ≡ false → v.tag.tag ≡ tag
  pub counted : v.spent ≡ false → v.count ≡ n
  pub ended : v.spent ≡ true → v.phase ≡ Idle
  -- a busy one has a place in the queue, and a holder the first
  pub placed : is_busy lingers v.phase ≡ true → (i : ℕ) × (get_elem? seats i ≡ some seat)
  pub first : is_holder lingers v.phase ≡ true → get_elem? seats 0 ≡ some seat
  -- a holder whose exchange of the tail found another has one behind it
  pub followed : is_holder lingers v.phase ≡ true → v.followed ≡ true → 1 < length seats

abbrev pub announced : View → ℕ
announced v = cond v.announced 1 0

-- another than the head of the queue waits: it is queued, or announced
abbrev pub IsBehind : List ℕ → List ℕ → Type 0
IsBehind words seats = (1 < length seats) ⊎ (0 < slice_index words waiting)

-- somebody waits: is queued, or announced
abbrev pub IsWaitedFor : List ℕ → List ℕ → Type 0
IsWaitedFor words seats = (0 < length seats) ⊎ (0 < slice_index words waiting)

-- What the view of a seat tells of waiters, in a lock that learns of them in this way
pub record Tells (lingers : Bool) (c : Waiters) (words seats : List ℕ) (v : View) : Type 0 where
  -- each seat that isn't spent knows the lock's choice, and one that is spent isn't announced
  pub chosen : v.spent ≡ false → v.waiters ≡ c
  pub gone : v.spent ≡ true → v.announced ≡ false
  -- only in a counted lock is a pass announced; there each queued pass is, and no pass that leaves
  pub counted : v.announced ≡ true → is_counted v.waiters ≡ true
  pub queued : is_queued v.phase ≡ true → v.announced ≡ is_counted v.waiters
  pub leaving : is_leaving v.phase ≡ true → v.announced ≡ false
  -- a holder that was told of another isn't announced, and another waits
  pub tested : is_holder lingers v.phase ≡ true → v.tested ≡ Yes → (v.announced ≡ false) × IsBehind words seats

-- the word `waiting` is the number of announced passes
pub record AreTold (lingers : Bool) (c : Waiters) (words seats : List ℕ) (views : List View) : Type 0 where
  pub waiting_is : slice_index words waiting ≡ sum_by announced views
  pub each : (j : ℕ) (v : View) → get_elem? views j ≡ some v → Tells lingers c words seats v

-- the seat has this view, and its pass is in the queue
pub record IsBusyAt (lingers : Bool) (views : List View) (seat : ℕ) : Type 0 where
  pub view : View
  pub at : get_elem? views seat ≡ some view
  pub is : is_busy lingers view.phase ≡ true

module _ (d : Discipline) where
  -- the words and views of a lock whose queue is that of these seats
  pub record IsQueued (n : ℕ) (tag : Tag) (words : List ℕ) (seats : List ℕ) (views : List View) : Type 0 where
    pub few : n < 2 ^ 32
    pub long : length words ≡ row_of d.algorithm n
    pub numbers : HasNumbers n views
    pub busy_are : sum_by (busy d.lingers) views ≡ length seats
    pub once : (i k j : ℕ) → get_elem? seats i ≡ some j → get_elem? seats k ≡ some j → i ≡ k
    pub each_seat : (j : ℕ) (v : View) → get_elem? views j ≡ some v → SeatStands d.lingers n tag seats j v
    pub each_place : (i j : ℕ) → get_elem? seats i ≡ some j → IsBusyAt d.lingers views j
    pub core : d.Core n words seats views

  module _ {V : Type 0} where
    -- the slot is away, and there is a holder
    pub record IsAway (views : List View) (homes : List (mathlib.Core.Option.Option (Option V))) : Type 0 where
      pub slot : homes ≡ none ∷ []
      pub held : sum_by (holding d.lingers) views ≡ 1

  module _ {V : Type 0} (fit : V → Type 0) (tag_of : V → Tag) (parked : V → Bool) where
    -- a value is at home in the slot, and nobody holds; a parked one has somebody who waits
    pub record IsHome (tag : Tag) (words seats : List ℕ) (views : List View) (homes : List (mathlib.Core.Option.Option (Option V))) : Type 0
      where
        pub value : V
        pub slot : homes ≡ some (Some value) ∷ []
        pub fits : fit value
        pub tagged : tag_of value ≡ tag
        pub relied_on : parked value ≡ true → IsWaitedFor words seats
        pub free : sum_by (holding d.lingers) views ≡ 0

    -- the rule of a lock that was made with this choice, n passes and a value of this tag
    pub record IsLock (c : Waiters) (n : ℕ) (tag : Tag) (s : State (Option V) View) : Type 0 where
      pub seats : List ℕ
      pub queued : IsQueued n tag s.words seats s.views
      pub told : AreTold d.lingers c s.words seats s.views
      pub slot : IsHome tag s.words seats s.views s.homes ⊎ IsAway s.views s.homes
