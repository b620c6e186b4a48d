-- What an algorithm proves of its own part of the rule, and what follows for every lock.
use Rattle.std.specs.Prelude.{◌≡◌, ℕ, ◌^◌, ◌<◌, Bool, false, Option, map, List, [], ◌∷◌, ◌++◌, length, slice_index, slice_set}
use mathlib.Core.Option.{none, some}
use lib.ListN.{get_elem?}
use Rattle.atomic_table.specs.Table.{State}
use Rattle.lock_rules.specs.Rows.{row_of, waiting}
use Rattle.lock_rules.specs.Tag.{Tag}
use Rattle.lock_rules.specs.Views.{IsPlain, first_view, without_next, next_split, joined_view, spent_view}
use Rattle.lock_rules.specs.declared.view.Phase.TheVariants.{Idle}
use Rattle.lock_rules.specs.declared.view.View.{View}
use Rattle.lock_rules.specs.declared.view.Waiters.{Waiters}
use Rattle.lock_tables.specs.Points.{IsBasic}
use Rattle.lock_tables.specs.Rule.{Discipline, is_holder, IsQueued, IsLock}

abbrev pub number_in : mathlib.Core.Option.Option View → ℕ
number_in none = 0
number_in (some v) = v.number

-- the pass of the seat j
abbrev pub number_at : List View → ℕ → ℕ
number_at views j = number_in (get_elem? views j)

-- the same view, but for what it knows of steps and waiters
abbrev pub IsNoted : View → View → Type 0
IsNoted v w = (w ≡ record v { steps = w.steps; announced = w.announced; loads = w.loads; tested = w.tested })

module _ (d : Discipline) where
  -- the algorithm's part of the rule
  pub record IsDisciplined : Type 0 where
    -- holds at the start
    pub opens_long : (n : ℕ) → length (d.opens n) ≡ row_of d.algorithm n
    pub opens_unannounced : (n : ℕ) → slice_index (d.opens n) waiting ≡ 0
    pub opens : (c : Waiters) (n : ℕ) (tag : Tag) → 0 < n → n < 2 ^ 32 → d.Core n (d.opens n) [] (first_view d.algorithm c n tag ∷ [])
    -- says nothing of the word `waiting`, nor of what a seat knows of steps and waiters
    pub notes : (n : ℕ) (words seats : List ℕ) (views : List View) (x id : ℕ) (v w : View) → get_elem? views id ≡ some v → IsNoted v w
        → d.Core n words seats views → d.Core n (slice_set words waiting x) seats (slice_set views id w)
    -- is kept where a seat is split off, and where one is joined
    pub splits : (n : ℕ) (tag : Tag) (words seats : List ℕ) (views : List View) (id : ℕ) (v : View) → IsQueued d n tag words seats views
        → get_elem? views id ≡ some v → v.spent ≡ false → v.from < v.to
        → d.Core n words seats (slice_set views id (without_next v) ++ next_split v ∷ [])
    pub joins : (n : ℕ) (tag : Tag) (words seats : List ℕ) (views : List View) (id : ℕ) (v : View) (other : ℕ) (w : View)
        → IsQueued d n tag words seats views
        → get_elem? views id ≡ some v → v.spent ≡ false → ¬ (other ≡ id) → get_elem? (slice_set views id (joined_view v w)) other ≡ some w
        → w.phase ≡ Idle → IsPlain w
        → d.Core n words seats (slice_set (slice_set views id (joined_view v w)) other spent_view)
    -- and its queue is that of the passes of the rule's seats
    pub queue_is : (n : ℕ) (tag : Tag) (words seats : List ℕ) (views : List View) → IsQueued d n tag words seats views
        → d.queue words views ≡ map (number_at views) seats

  module _ {V : Type 0} (fit : V → Type 0) (tag_of : V → Tag) (parked : V → Bool) where
    -- the rule implies that of a basic lock, with the queue computed from words and views
    abbrev pub RuleIsBasic : Type 0
    RuleIsBasic = (c : Waiters) (n : ℕ) (tag : Tag) (s : State (Option V) View) → IsLock d fit tag_of parked c n tag s
        → IsBasic fit tag_of parked (is_holder d.lingers) c n tag (d.queue s.words s.views) s
