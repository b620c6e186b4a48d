-- A shape: the callers' paths through a tree of levels.
use Rattle.std.specs.Prelude.{◌≡◌, ℕ, ◌+◌, ◌<◌, ◌≤◌, [], length, slice_index, slice_index_or}
use Rattle.keep_local.specs.declared.shape.Shape.{Shape}

-- the top level, which is the number of the levels below it
abbrev pub top_of : Shape → ℕ
top_of shape = length shape.keeps

-- how many callers there are
abbrev pub callers_of : Shape → ℕ
callers_of shape = length shape.paths

-- the node of a caller at a level
abbrev pub node_of : Shape → ℕ → ℕ → ℕ
node_of shape caller level = slice_index (slice_index_or shape.paths caller []) level

-- the node is some caller's at this level
abbrev pub HasNode : Shape → ℕ → ℕ → Type 0
HasNode shape level node = (v : ℕ) × (v < callers_of shape) × (node_of shape v level ≡ node)

-- the paths are those of a tree with at most 33 levels
pub record IsWellFormed (shape : Shape) : Type 0 where
  -- a bit of a turn's tests for each level below the top
  pub levels : top_of shape ≤ 32
  -- every path has an entry for each level, the top included
  pub whole : (w : ℕ) → w < callers_of shape → length (slice_index_or shape.paths w []) ≡ top_of shape + 1
  -- the nodes of a level are numbered from 0 without gaps
  pub no_gaps : (w : ℕ) → w < callers_of shape → (k : ℕ) → k ≤ top_of shape → (n : ℕ) → n < node_of shape w k → HasNode shape k n
  -- there is one node at the top
  pub one_top : (w : ℕ) → w < callers_of shape → node_of shape w (top_of shape) ≡ 0
  -- two callers with one node at a level have one node at every higher level
  pub nested : (v w j k : ℕ) → v < callers_of shape → w < callers_of shape → j < k → k ≤ top_of shape
      → node_of shape v j ≡ node_of shape w j → node_of shape v k ≡ node_of shape w k
