-- Which lock a composed lock is.
use Rattle.std.specs.Prelude.{◌≡◌, ℕ, List, [], ◌∷◌, slice_get, Some}
use Rattle.lock_rules.specs.Tag.{Tag}
use Rattle.clof_compose.specs.Contexts.{Context}

-- what names a composed lock: its level, the names of its lowest level's basic locks, in the order of the nodes, and those of each level
-- above it, up to the top
pub record Name : Type 0 where
  pub level : ℕ
  pub locks : List Tag
  pub above : List (List Tag)

-- the name of a top lock, whose basic lock has this name
abbrev pub top_name : ℕ → Tag → Name
top_name level lock = record { level = level; locks = lock ∷ []; above = [] }

-- the name of a level whose basic locks have these names, over a lock of this name
abbrev pub level_name : ℕ → List Tag → Name → Name
level_name level locks high = record { level = level; locks = locks; above = high.locks ∷ high.above }

-- the context is one of a lock of this name: its pass is of the basic lock that the name has for its node
pub record IsNamed (name : Name) (c : Context) : Type 0 where
  pub level_is : c.level ≡ name.level
  pub lock_is : slice_get name.locks c.node ≡ Some c.pass.lock
