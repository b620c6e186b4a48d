-- The rule of a basic lock, in words that name no algorithm: what holds of the queue, the slot and all views of its table between any two
-- atomic steps.
use Rattle.std.specs.Prelude.{◌≡◌, ◌⊎◌, ℕ, ◌<◌, ◌≤◌, Bool, true, false, ◌||◌, List, slice_get, slice_index, Option, Some}
use Rattle.std.specs.List.{sum_by}
use mathlib.Core.Option.{some}
use lib.ListN.{get_elem?}
use Rattle.atomic_table.specs.Table.{State}
use Rattle.lock_rules.specs.Rows.{waiting}
use Rattle.lock_rules.specs.Tag.{Tag}
use Rattle.lock_rules.specs.Views.{is_counted}
use Rattle.lock_rules.specs.declared.step.Answer.TheVariants.{Yes}
use Rattle.lock_rules.specs.declared.view.Phase.{Phase}
use Rattle.lock_rules.specs.declared.view.View.{View}
use Rattle.lock_rules.specs.declared.view.Waiters.{Waiters}
use Rattle.lock_tables.specs.Numbers.{Numbering, by_pass}
use Rattle.lock_tables.specs.Queue.{IsIn, HasNoRepeats, IsHead}
use Rattle.lock_tables.specs.Rule.{announced, is_queued, is_leaving}

-- the seat j has this view and is not spent
pub record IsAt (views : List View) (j : ℕ) (v : View) : Type 0 where
  pub at : get_elem? views j ≡ some v
  pub unspent : v.spent ≡ false

-- p is the pass of a seat in a phase that passes the test
pub record IsPassIn (test : Phase → Bool) (views : List View) (p : ℕ) : Type 0 where
  pub seat : ℕ
  pub view : View
  pub at : IsAt views seat view
  pub pass : view.number ≡ p
  pub phase : test view.phase ≡ true

-- p is the pass of a seat that is announced
pub record IsAnnounced (views : List View) (p : ℕ) : Type 0 where
  pub seat : ℕ
  pub view : View
  pub at : IsAt views seat view
  pub pass : view.number ≡ p
  pub announced : view.announced ≡ true

-- the number k is the seat's own, or of a pass that was not split off yet, or taken over by joining
abbrev pub Has : Numbering → ℕ → View → Type 0
Has m k v = (m.own v ≡ k) ⊎ (((v.from ≤ k) × (k < v.to)) ⊎ IsIn k (m.taken v))

-- exactly one seat has the number k
pub record HasOneSeat (m : Numbering) (k : ℕ) (views : List View) : Type 0 where
  pub seat : ℕ
  pub view : View
  pub at : IsAt views seat view
  pub has : Has m k view
  pub alone : (j : ℕ) (v : View) → IsAt views j v → Has m k v → j ≡ seat

module _ {V : Type 0} where
  -- the value x is at home in the slot
  abbrev pub IsHomeValue : List (mathlib.Core.Option.Option (Option V)) → V → Type 0
  IsHomeValue homes x = get_elem? homes 0 ≡ some (some (Some x))

module _ {V : Type 0} (fit : V → Type 0) (tag_of : V → Tag) (parked : V → Bool) (holds : Phase → Bool) where
  -- The rule of a lock with this choice, n passes and this tag, whose queue is `queue`; `holds` tells a holder by its phase
  pub record IsBasic (c : Waiters) (n : ℕ) (tag : Tag) (queue : List ℕ) (s : State (Option V) View) : Type 0 where
    -- the queue has no repeats, and consists of the passes that are queued or hold
    pub no_repeats : HasNoRepeats queue
    pub members : (p : ℕ) → IsIn p queue → IsPassIn (λ x. is_queued x || holds x) s.views p
    pub all_members : (p : ℕ) → IsPassIn (λ x. is_queued x || holds x) s.views p → IsIn p queue
    -- a holder is the head of the queue
    pub holder_first : (p : ℕ) → IsPassIn holds s.views p → IsHead p queue
    -- a value is at home, or there is a holder, and not both
    pub kept : ((x : V) × IsHomeValue s.homes x) ⊎ ((p : ℕ) × IsPassIn holds s.views p)
    pub alone : (x : V) → IsHomeValue s.homes x → (p : ℕ) → ¬ IsPassIn holds s.views p
    -- a parked value at home has a pass that is queued or announced
    pub relied_on : (x : V) → IsHomeValue s.homes x → parked x ≡ true → ((p : ℕ) × IsHead p queue) ⊎ ((p : ℕ) × IsAnnounced s.views p)
    -- a holder that tested yes isn't announced, and another pass is behind it in the queue or is announced
    pub behind : (j : ℕ) (v : View) → IsAt s.views j v → holds v.phase ≡ true → v.tested ≡ Yes
        → (v.announced ≡ false) × (((p : ℕ) × (slice_get queue 1 ≡ Some p)) ⊎ ((p : ℕ) × IsAnnounced s.views p))
    -- all views know the choice; in a lock that doesn't count no pass is announced; in one that counts, the word `waiting` is the number of
    -- announced passes, a queued pass is announced, and one that leaves isn't
    pub one_choice : (j : ℕ) (v : View) → IsAt s.views j v → v.waiters ≡ c
    pub uncounted : (j : ℕ) (v : View) → IsAt s.views j v → v.announced ≡ true → is_counted c ≡ true
    pub counted : slice_index s.words waiting ≡ sum_by announced s.views
    pub queued : (j : ℕ) (v : View) → IsAt s.views j v → is_queued v.phase ≡ true → v.announced ≡ is_counted c
    pub leaving : (j : ℕ) (v : View) → IsAt s.views j v → is_leaving v.phase ≡ true → v.announced ≡ false
    -- all views and the value at home have one tag, and the value at home is fit
    pub one_tag : (j : ℕ) (v : View) → IsAt s.views j v → v.tag.tag ≡ tag
    pub value_tag : (x : V) → IsHomeValue s.homes x → tag_of x ≡ tag
    pub value_fits : (x : V) → IsHomeValue s.homes x → fit x
    -- each number below n has exactly one seat, and no seat has another number
    pub one_seat : (k : ℕ) → k < n → HasOneSeat by_pass k s.views
    pub no_other : (k j : ℕ) (v : View) → IsAt s.views j v → Has by_pass k v → k < n
