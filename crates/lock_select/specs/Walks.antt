-- How a walk over the turns of a trace goes, for a list of levels: what it keeps, and how a turn is handed on.
use Rattle.std.specs.Prelude.{◌≡◌, ℕ, ◌+◌, ◌-◌, ◌<◌, ◌≤◌, List, length, take, slice_index}
use Rattle.std.specs.List.{sum_by}
use Rattle.synth_text.specs.declared.description.Description.{Description}
use Rattle.topo_tree.specs.Objects.{depth_count}
use Rattle.topo_tree.specs.Coverage.{object_over}
use Rattle.keep_local.specs.declared.turn.Turn.{Turn}
use Rattle.keep_local.specs.Turns.{run}
use Rattle.lock_select.specs.Nodes.{shape_of}
use Rattle.lock_select.specs.IdealTurns.{ideal_turns}
use Rattle.lock_select.specs.Costs.{climb_cost}

-- two PUs are under one object at this depth and at those above it, and at none below it
pub record IsCommon (described : Description) (pu next common : ℕ) : Type 0 where
  pub within : common < depth_count described
  pub same : (depth : ℕ) → depth ≤ common → object_over described depth pu ≡ object_over described depth next
  pub apart : (depth : ℕ) → common < depth → depth < depth_count described
      → object_over described depth pu ≡ object_over described depth next → ⊥

-- the common depths of each turn's PU and the next one's
pub record AreCommons (described : Description) (trace commons : List ℕ) : Type 0 where
  pub count : length commons ≡ length trace - 1
  pub are : (turn : ℕ) → turn < length commons
      → IsCommon described (slice_index trace turn) (slice_index trace (turn + 1)) (slice_index commons turn)

-- the least level at a depth that is common, whose run is below the keep, or the top; the runs of lower levels end, and its own grows
pub record IsHandedOn (depths : List ℕ) (keep common : ℕ) (runs after : List ℕ) (left : ℕ) : Type 0 where
  pub within : left ≤ length depths - 1
  pub stays : left < length depths - 1 → (slice_index depths left ≤ common) × (slice_index runs left < keep)
  pub least : (level : ℕ) → level < left → slice_index depths level ≤ common → slice_index runs level < keep → ⊥
  pub ended : (level : ℕ) → level < left → slice_index after level ≡ 0
  pub grown : left < length depths - 1 → slice_index after left ≡ slice_index runs left + 1
  pub others : (level : ℕ) → left < level → slice_index after level ≡ slice_index runs level

-- the turns of a trace under levels
abbrev pub turns_of : Description → List ℕ → ℕ → List ℕ → List Turn
turns_of described depths keep trace = ideal_turns (shape_of described depths keep) trace

-- behind so many turns of a trace that were handed on: the runs of the levels below the top, and what these turns and the next one cost
pub record HasWalked (described : Description) (weights depths : List ℕ) (keep : ℕ) (trace : List ℕ) (turns : ℕ) (runs : List ℕ) (cost : ℕ)
    : Type 0 where
  pub runs_are : (level : ℕ) → level < length depths - 1
      → slice_index runs level ≡ run level (take turns (turns_of described depths keep trace))
  pub cost_is : cost ≡ sum_by (λ turn. climb_cost weights depths turn.climb) (take (turns + 1) (turns_of described depths keep trace))
