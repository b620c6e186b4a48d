-- The search through all lists of levels, one behind another: first those of fewer levels, then by the depths from the lowest level.
use Rattle.std.specs.Prelude.{◌≡◌, ◌⊎◌, ℕ, zero, suc, ◌+◌, ◌<◌, ◌≤◌, List, [], ◌∷◌, ◌++◌, length, All}
use Rattle.std.specs.List.{AllPairs}
use Rattle.synth_text.specs.declared.description.Description.{Description}
use Rattle.topo_tree.specs.Objects.{depth_count}
use Rattle.lock_select.specs.declared.choice.Choice.{Choice}
use Rattle.lock_select.specs.declared.question.Question.{Question}
use Rattle.lock_select.specs.Texts.{keep_limit, Weighs}
use Rattle.lock_select.specs.Traces.{Visits}
use Rattle.lock_select.specs.Nodes.{level_limit}
use Rattle.lock_select.specs.Walks.{AreCommons}
use Rattle.lock_select.specs.Costs.{cost_of, IsLess}

-- what a question keeps
pub record IsAsked (q : Question) : Type 0 where
  pub weights : Weighs q.tree.now q.weights.now
  pub keep : q.keep ≤ keep_limit
  pub trace : Visits q.tree.now q.trace.now
  pub commons : AreCommons q.tree.now q.trace.now q.commons.now

-- the cost of a list of levels
abbrev pub asked_cost : Question → List ℕ → ℕ
asked_cost q depths = cost_of q.tree.now q.weights.now depths q.keep q.trace.now

-- the lowest depths of a list of levels, so far that so many more and Machine can follow, further up than a depth
pub record CanGoOn (described : Description) (front : List ℕ) (more below : ℕ) : Type 0 where
  pub few : length front + more + 1 ≤ level_limit
  pub within : All (λ depth. depth < depth_count described) front
  pub falling : AllPairs (λ lower upper. upper < lower) front
  pub above : All (λ depth. below ≤ depth) front
  pub some : 1 ≤ below
  pub bound : below ≤ depth_count described

-- so many falling depths, further up than a depth, and then Machine
abbrev pub IsEnding : ℕ → ℕ → List ℕ → Type 0
IsEnding zero below [] = ⊥
IsEnding zero below (depth ∷ depths) = (depth ≡ 0) × (depths ≡ [])
IsEnding (suc more) below [] = ⊥
IsEnding (suc more) below (depth ∷ depths) = (1 ≤ depth) × (depth < below) × IsEnding more depth depths

-- a list that goes on so behind its lowest depths
abbrev pub GoesOn : List ℕ → ℕ → ℕ → List ℕ → Type 0
GoesOn front more below depths = (ending : List ℕ) × (depths ≡ front ++ ending) × IsEnding more below ending

-- a choice stays, or gives way to one of some lists that costs less
pub record Improves (cost : List ℕ → ℕ) (Tried : List ℕ → Type 0) (old new : Choice) : Type 0 where
  pub no_more : new.cost ≤ old.cost
  pub stays : (new.cost ≡ old.cost) → new.depths ≡ old.depths
  pub tried : new.cost < old.cost → Tried new.depths × (new.cost ≡ cost new.depths)

-- behind the search through some lists no one of them costs less than the choice, and each that costs the same as a new choice is this or
-- comes behind it
pub record IsBestOf (cost : List ℕ → ℕ) (Tried : List ℕ → Type 0) (old new : Choice) : Type 0 where
  pub improves : Improves cost Tried old new
  pub least : (others : List ℕ) → Tried others → new.cost ≤ cost others
  pub first : (others : List ℕ) → Tried others → cost others ≡ new.cost → new.cost < old.cost
      → (others ≡ new.depths) ⊎ IsLess new.depths others
