-- What a list of levels costs for a trace, and which is the cheapest.
use Rattle.std.specs.Prelude.{◌≡◌, ◌⊎◌, ℕ, ◌+◌, ◌<◌, ◌≤◌, List, length, take, slice_index}
use Rattle.std.specs.List.{sum_by}
use Rattle.synth_text.specs.declared.description.Description.{Description}
use Rattle.lock_select.specs.declared.choice.Choice.{Choice}
use Rattle.lock_select.specs.Nodes.{AreLevels, shape_of}
use Rattle.lock_select.specs.IdealTurns.{ideal_turns}

-- what it costs to climb to a level: the weights of the depths from the lowest level up to it, each of whose locks is taken
abbrev pub climb_cost : List ℕ → List ℕ → ℕ → ℕ
climb_cost weights depths climb = sum_by (slice_index weights) (take (climb + 1) depths)

-- what a list of levels costs for a trace: what its ideal turns climb
unfoldable pub cost_of : Description → List ℕ → List ℕ → ℕ → List ℕ → ℕ
cost_of described weights depths keep trace =
    sum_by (λ turn. climb_cost weights depths turn.climb) (ideal_turns (shape_of described depths keep) trace)

-- the first list is less at the first place at which two of equal length differ
pub record IsLess (depths others : List ℕ) : Type 0 where
  pub place : ℕ
  pub within : place < length depths
  pub same : take place depths ≡ take place others
  pub less : slice_index depths place < slice_index others place

-- a list comes before another: it has fewer levels, or as many and is less, compared from the lowest level
abbrev pub ComesBefore : List ℕ → List ℕ → Type 0
ComesBefore depths others = (length depths < length others) ⊎ ((length depths ≡ length others) × IsLess depths others)

-- A choice is a list of levels with its cost. No list of levels costs less, and each other that costs the same comes behind it.
pub record IsCheapest (described : Description) (weights : List ℕ) (keep : ℕ) (trace : List ℕ) (choice : Choice) : Type 0 where
  pub levels : AreLevels described choice.depths
  pub cost : choice.cost ≡ cost_of described weights choice.depths keep trace
  pub least : (others : List ℕ) → AreLevels described others → choice.cost ≤ cost_of described weights others keep trace
  pub first : (others : List ℕ) → AreLevels described others → cost_of described weights others keep trace ≡ choice.cost
      → (others ≡ choice.depths) ⊎ ComesBefore choice.depths others
