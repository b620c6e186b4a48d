-- What a composed lock promises, over the rules of its basic locks and the values at home in them.
use Rattle.std.specs.Prelude.{◌≡◌, ◌⊎◌, ℕ, Bool, true, List, Option, length, slice_get, Some}
use Rattle.atomic_table.specs.Table.{State}
use Rattle.lock_rules.specs.Tag.{Tag}
use Rattle.lock_rules.specs.Views.{is_counted}
use Rattle.lock_rules.specs.declared.view.Phase.{Phase}
use Rattle.lock_rules.specs.declared.view.View.{View}
use Rattle.lock_rules.specs.declared.view.Waiters.{Waiters}
use Rattle.lock_tables.specs.Points.{IsAnnounced, IsBasic, IsHomeValue, IsPassIn}
use Rattle.lock_tables.specs.Queue.{IsHead}
use Rattle.keep_local.specs.declared.turn.Turn.{Turn}
use Rattle.clof_compose.specs.Contexts.{Context}
use Rattle.clof_compose.specs.Meanings.{Rest, Stand}
use Rattle.clof_compose.specs.Nodes.{AreLocks}
use Rattle.clof_compose.specs.Owns.{IsOwnFit, context_in, is_kept, own_tag_of}
use Rattle.clof_compose.specs.declared.own.Own.{Own}
use Rattle.clof_compose.specs.declared.root.Root.{Root}

module _ {V : Type 0} (fit : V → Type 0) (tag_of : V → Tag) (parked : V → Bool) (holds : Phase → Bool) where
  -- two passes that hold a basic lock are one
  abbrev pub AtMostOneHolds : Type 0
  AtMostOneHolds = (c : Waiters) (n : ℕ) (tag : Tag) (queue : List ℕ) (s : State (Option V) View) (p q : ℕ)
      → IsBasic fit tag_of parked holds c n tag queue s → IsPassIn holds s.views p → IsPassIn holds s.views q → p ≡ q

module _ {P Pass Held B : Type 0} (rest : Pass → Rest) (stand : Held → Stand (Root P)) (tag : B → Tag) where
  -- nodes of a level whose values have the same context are one
  abbrev pub ContextsAreApart : (Context → Type 0) → ℕ → Tag → Type 0
  ContextsAreApart has high_level root_tag_is = (locks : List B) (n m : ℕ) (a b : B) (x y : Own P Pass Held)
      → AreLocks tag has high_level root_tag_is locks → slice_get locks n ≡ Some a → slice_get locks m ≡ Some b
      → own_tag_of rest stand x.node x.high ≡ tag a → own_tag_of rest stand y.node y.high ≡ tag b
      → context_in rest stand x.high ≡ context_in rest stand y.high → n ≡ m

module _ {P Pass Held : Type 0} (calls : P → List ℕ) (tag : P → Tag) (rest : Pass → Rest) (stand : Held → Stand (Root P))
    (stands : Held → Type 0) (holds : Phase → Bool) where
  -- where a kept value is at home, nobody holds the lock, and a pass is queued or, in a lock that counts its waiters, announced: it has
  -- begun and not yet taken
  abbrev pub KeptIsWaitedFor : Type 0
  KeptIsWaitedFor = (c : Waiters) (n : ℕ) (lock_tag : Tag) (queue : List ℕ) (s : State (Option (Own P Pass Held)) View)
      (x : Own P Pass Held)
      → IsBasic (λ o. IsOwnFit rest stand calls tag stands o.node o.kept o.said o.high) (λ o. own_tag_of rest stand o.node o.high)
      (λ o. is_kept rest stand o.high) holds c n lock_tag queue s
      → IsHomeValue s.homes x → is_kept rest stand x.high ≡ true
      → ((p : ℕ) → ¬ IsPassIn holds s.views p)
      × (((p : ℕ) × IsHead p queue) ⊎ ((is_counted c ≡ true) × ((p : ℕ) × IsAnnounced s.views p)))

-- the turn behind these closed ones has these tests
pub record HasTestsBehind (before : List Turn) (tests : ℕ) (turns : List Turn) : Type 0 where
  pub turn : Turn
  pub is : slice_get turns (length before) ≡ Some turn
  pub tests_are : turn.tests ≡ tests
