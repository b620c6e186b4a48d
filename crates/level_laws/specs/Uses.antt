-- Who has which context of the high lock in hand, between any two steps.
use Rattle.std.specs.Prelude.{◌≡◌, ◌⊎◌, ℕ, Bool, List, Option, slice_get, Some}
use Rattle.atomic_table.specs.Table.{State}
use Rattle.lock_rules.specs.Tag.{Tag}
use Rattle.lock_rules.specs.Holders.{holder_of}
use Rattle.lock_rules.specs.Meanings.{Place}
use Rattle.lock_rules.specs.Passes.{IsOf}
use Rattle.lock_rules.specs.declared.held.Held.{Held as Holds}
use Rattle.lock_rules.specs.declared.view.Phase.{Phase}
use Rattle.lock_rules.specs.declared.view.View.{View}
use Rattle.lock_rules.specs.declared.view.Waiters.{Waiters}
use Rattle.lock_tables.specs.Points.{IsBasic, IsHomeValue, IsPassIn}
use Rattle.clof_compose.specs.Contexts.{Context, own_tag}
use Rattle.clof_compose.specs.Levels.{IsClimbing, IsDescending, IsHolding, IsStanding, kept_stand}
use Rattle.clof_compose.specs.Meanings.{Rest, Climb, Stand, Descent}
use Rattle.clof_compose.specs.Nodes.{AreLocks}
use Rattle.clof_compose.specs.Stages.{IsLeaving, IsQueued}
use Rattle.clof_compose.specs.Owns.{IsOwnFit, context_in, is_kept, own_tag_of}
use Rattle.clof_compose.specs.declared.own.High.TheVariants.{Idle}
use Rattle.clof_compose.specs.declared.own.Own.{Own}
use Rattle.clof_compose.specs.declared.level_tokens.LevelHeld.{LevelHeld}
use Rattle.clof_compose.specs.declared.root.Root.{Root}
use Rattle.clof_compose.specs.declared.stage.QueueStage.{QueueStage}
use Rattle.clof_compose.specs.declared.stage.QueueStage.TheVariants as waits
use Rattle.clof_compose.specs.declared.stage.LeaveStage.{LeaveStage}
use Rattle.clof_compose.specs.declared.stage.LeaveStage.TheVariants as leaves

-- Whoever holds a node's basic lock at this place has this context of the high lock in hand in one of four ways, as the value and the
-- tokens of the level say it
module _ (P Pass Held : Type 0) (level : ℕ) (place : Place) (c : Context) where
  -- the context's pass is at rest in the value: the high lock isn't taken yet, or is released again
  pub record Rests (rest : Pass → Rest) : Type 0 where
    pub low : Holds (Own P Pass Held)
    pub pass : Pass
    pub at : (holder_of low).place ≡ place
    pub high_is : low.value.high ≡ Idle pass
    pub tag_same : own_tag low.value.node (rest pass).context ≡ place.tag
    pub own : (rest pass).context ≡ c

  -- it keeps the high lock, by a holder's token of the context
  pub record Keeps (stand : Held → Stand (Root P)) (stands : Held → Type 0) : Type 0 where
    pub low : Holds (Own P Pass Held)
    pub at : (holder_of low).place ≡ place
    pub holding : IsHolding level low.value.node low.value.kept place.tag (IsStanding stands low.value.high)
        (kept_stand stand low.value.high)
    pub own : (kept_stand stand low.value.high).context ≡ c

  -- it takes the high lock, by a token of the context that waits
  pub record Takes {Queue : Type 0} (climb : Queue → Climb) (climbs : Queue → Type 0) : Type 0 where
    pub low : Holds (Own P Pass Held)
    pub queue : Queue
    pub at : (holder_of low).place ≡ place
    pub climbing : IsClimbing level low.value.node place.tag (climbs queue) (climb queue)
    pub own : (climb queue).context ≡ c

  -- it releases the high lock, by a token of the context that leaves
  pub record Releases {Leave : Type 0} (descent : Leave → Descent) (descends : Leave → Type 0) : Type 0 where
    pub low : Holds (Own P Pass Held)
    pub leave : Leave
    pub at : (holder_of low).place ≡ place
    pub descending : IsDescending level low.value.node low.value.said place.tag (descends leave) (descent leave)
    pub own : (descent leave).context ≡ c

module _ (P Pass Held : Type 0) {Queue Leave : Type 0} (rest : Pass → Rest) (stand : Held → Stand (Root P)) (stands : Held → Type 0)
    (climb : Queue → Climb) (climbs : Queue → Type 0) (descent : Leave → Descent) (descends : Leave → Type 0) (level : ℕ) where
  abbrev pub HasInHand : Place → Context → Type 0
  HasInHand place c = Rests P Pass Held level place c rest ⊎ (Keeps P Pass Held level place c stand stands
      ⊎ (Takes P Pass Held level place c climb climbs ⊎ Releases P Pass Held level place c descent descends))

-- `LowQueue` and `LowLeave` are tokens of the basic locks
module _ {P Pass Held Queue Leave : Type 0} (LowQueue LowLeave : Type 0) (rest : Pass → Rest) (stand : Held → Stand (Root P))
    (stands : Held → Type 0) (climb : Queue → Climb) (climbs : Queue → Type 0) (descent : Leave → Descent) (descends : Leave → Type 0) where
  abbrev pub has_in_hand : ℕ → Holds (Own P Pass Held) → Context → Type 0
  has_in_hand level low c = HasInHand P Pass Held rest stand stands climb climbs descent descends level (holder_of low).place c

  -- a holder of a node's lock whose value has the pass at rest, and each token of a level that holds, or waits or leaves higher up, has the
  -- context of the high lock in hand so
  pub record HoldersHave : Type 0 where
    pub rests : (level : ℕ) (low : Holds (Own P Pass Held)) (pass : Pass) → low.value.high ≡ Idle pass
        → own_tag_of rest stand low.value.node low.value.high ≡ (holder_of low).place.tag
        → has_in_hand level low (context_in rest stand low.value.high)
    pub keeps : (h : LevelHeld P Pass Held) → IsHolding h.id.level h.low.value.node h.low.value.kept (holder_of h.low).place.tag
        (IsStanding stands h.low.value.high) (kept_stand stand h.low.value.high)
        → has_in_hand h.id.level h.low (context_in rest stand h.low.value.high)
    pub takes : (level : ℕ) (low : Holds (Own P Pass Held)) (queue : Queue)
        → (let stage : QueueStage P LowQueue Pass Held Queue = waits.High low queue in IsQueued climb climbs level stage)
        → has_in_hand level low (climb queue).context
    pub releases : (level : ℕ) (low : Holds (Own P Pass Held)) (leave : Leave)
        → (let stage : LeaveStage P LowLeave Pass Held Leave = leaves.High low leave in
        IsLeaving (λ _. Unit {0}) descent descends level stage)
        → has_in_hand level low (descent leave).context

-- The basic locks of a level's nodes at some moment, and the states of their tables. `uses` tells who has which
-- context of the high lock in hand
module _ {V B : Type 0} (name tag : B → Tag) (holds : Phase → Bool) (uses : Place → Context → Type 0) (locks : List B)
    (states : ℕ → State (Option V) View) where
  -- the pass at this place holds the basic lock of the node n, and has the context in hand
  pub record IsUser (n : ℕ) (place : Place) (c : Context) : Type 0 where
    pub lock : B
    pub at : slice_get locks n ≡ Some lock
    pub own : IsOf (name lock) (tag lock) place
    pub holds_it : IsPassIn holds (states n).views place.number
    pub in_hand : uses place c

module _ {P Pass Held B : Type 0} (calls : P → List ℕ) (root_tag : P → Tag) (rest : Pass → Rest) (stand : Held → Stand (Root P))
    (stands : Held → Type 0) (tag : B → Tag) (count : B → ℕ) (has : Context → Type 0) (high_level : ℕ) (root_tag_is : Tag)
    (holds : Phase → Bool) where
  -- each basic lock belongs to its node, and its table keeps the rule
  pub record AreNodes (locks : List B) (choices : ℕ → Waiters) (queues : ℕ → List ℕ)
      (states : ℕ → State (Option (Own P Pass Held)) View) : Type 0 where
    pub locks_are : AreLocks tag has high_level root_tag_is locks
    pub rules : (n : ℕ) (lock : B) → slice_get locks n ≡ Some lock
        → IsBasic (λ o. IsOwnFit rest stand calls root_tag stands o.node o.kept o.said o.high) (λ o. own_tag_of rest stand o.node o.high)
        (λ o. is_kept rest stand o.high) holds (choices n) (count lock) (tag lock) (queues n) (states n)

module _ {P Pass Held Queue Leave B : Type 0} (calls : P → List ℕ) (root_tag : P → Tag) (rest : Pass → Rest) (stand : Held → Stand (Root P))
    (stands : Held → Type 0) (climb : Queue → Climb) (climbs : Queue → Type 0) (descent : Leave → Descent) (descends : Leave → Type 0)
    (name tag : B → Tag) (count : B → ℕ) (has : Context → Type 0) (high_level : ℕ) (root_tag_is : Tag) (level : ℕ) (holds : Phase → Bool)
  where
    abbrev pub uses_of : Place → Context → Type 0
    uses_of place c = HasInHand P Pass Held rest stand stands climb climbs descent descends level place c

    -- a context is in the hands of one pass of one node's lock at most
    abbrev pub OneUser : Type 0
    OneUser = (locks : List B) (choices : ℕ → Waiters) (queues : ℕ → List ℕ) (states : ℕ → State (Option (Own P Pass Held)) View)
        (n m : ℕ) (p q : Place) (c : Context)
        → AreNodes calls root_tag rest stand stands tag count has high_level root_tag_is holds locks choices queues states
        → IsUser name tag holds uses_of locks states n p c → IsUser name tag holds uses_of locks states m q c → (n ≡ m) × (p ≡ q)

    -- the context of a node's value at home is in no pass's hands
    abbrev pub NoUserOfHome : Type 0
    NoUserOfHome = (locks : List B) (choices : ℕ → Waiters) (queues : ℕ → List ℕ) (states : ℕ → State (Option (Own P Pass Held)) View)
        (n m : ℕ) (p : Place) (b : B) (x : Own P Pass Held)
        → AreNodes calls root_tag rest stand stands tag count has high_level root_tag_is holds locks choices queues states
        → slice_get locks m ≡ Some b → IsHomeValue (states m).homes x
        → ¬ IsUser name tag holds uses_of locks states n p (context_in rest stand x.high)
