-- From which contexts the root is reached, between any two steps: from those of the top lock, and by way of the high lock from those of a
-- level.
use Rattle.std.specs.Prelude.{◌≡◌, ℕ, Bool, List, Option}
use Rattle.atomic_table.specs.Table.{State}
use Rattle.lock_rules.specs.Tag.{Tag}
use Rattle.lock_rules.specs.Meanings.{Place}
use Rattle.lock_rules.specs.declared.view.Phase.{Phase}
use Rattle.lock_rules.specs.declared.view.View.{View}
use Rattle.lock_rules.specs.declared.view.Waiters.{Waiters}
use Rattle.lock_tables.specs.Points.{IsBasic, IsPassIn}
use Rattle.clof_compose.specs.Contexts.{Context}
use Rattle.clof_compose.specs.Meanings.{Rest, Stand}
use Rattle.clof_compose.specs.Nodes.{IsOfLevel}
use Rattle.clof_compose.specs.Tops.{IsOfTop}
use Rattle.clof_compose.specs.declared.own.Own.{Own}
use Rattle.clof_compose.specs.declared.root.Root.{Root}
use Rattle.level_laws.specs.Uses.{AreNodes, IsUser, Keeps}

-- a context of the top lock reaches the root where its pass holds the basic lock, whose value is the root
pub record TopReaches {V : Type 0} (level : ℕ) (name tag : Tag) (holds : Phase → Bool) (s : State V View) (c : Context) : Type 0 where
  pub own : IsOfTop level name tag c
  pub holds_it : IsPassIn holds s.views c.pass.number

module _ {V : Type 0} (fit : V → Type 0) (tag_of : V → Tag) (parked : V → Bool) (holds : Phase → Bool) where
  -- between any two steps of the top lock's table
  abbrev pub OneReachesTop : Type 0
  OneReachesTop = (level : ℕ) (c : Waiters) (n : ℕ) (name tag : Tag) (queue : List ℕ) (s : State (Option V) View)
      (a b : Context) → IsBasic fit tag_of parked holds c n tag queue s → TopReaches level name tag holds s a
      → TopReaches level name tag holds s b → a ≡ b

module _ (P Pass : Type 0) {Held B : Type 0} (stand : Held → Stand (Root P)) (stands : Held → Type 0) (name tag : B → Tag) (level : ℕ)
    (holds : Phase → Bool) where
  abbrev pub keeps_of : Place → Context → Type 0
  keeps_of place c = Keeps P Pass Held level place c stand stands

  -- a context of the level reaches one of the high lock where its pass holds the basic lock of its node, and keeps the high lock by that
  pub record Reaches (parents : List ℕ) (locks : List B) (states : ℕ → State (Option (Own P Pass Held)) View) (c high : Context) : Type 0
    where
      pub own : IsOfLevel name tag level parents locks c
      pub user : IsUser name tag holds keeps_of locks states c.node c.pass high

module _ {P Pass Held B : Type 0} (calls : P → List ℕ) (root_tag : P → Tag) (rest : Pass → Rest) (stand : Held → Stand (Root P))
    (stands : Held → Type 0) (name tag : B → Tag) (count : B → ℕ) (has : Context → Type 0) (high_level : ℕ) (root_tag_is : Tag) (level : ℕ)
    (holds : Phase → Bool) where
  -- between any two steps of the tables of the level's nodes
  abbrev pub OneReaches : Type 0
  OneReaches = (parents : List ℕ) (locks : List B) (choices : ℕ → Waiters) (queues : ℕ → List ℕ)
      (states : ℕ → State (Option (Own P Pass Held)) View) (c d high : Context)
      → AreNodes calls root_tag rest stand stands tag count has high_level root_tag_is holds locks choices queues states
      → Reaches P Pass stand stands name tag level holds parents locks states c high
      → Reaches P Pass stand stands name tag level holds parents locks states d high → c ≡ d
