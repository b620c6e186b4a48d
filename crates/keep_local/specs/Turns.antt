-- Turns, runs, and which lists of turns are lawful: the keep-local rule of CLoF, told over one flat list.
use Rattle.std.specs.Prelude.{◌≡◌, ℕ, ◌-◌, ◌<◌, ◌≤◌, List, [], ◌∷◌, ◌++◌, length, ◌==◌, nat_lt, slice_get, slice_index, IfSome, Option}
use Rattle.std.specs.Int.{bit_at}
use Rattle.std.specs.List.{count_by, after_last}
use Rattle.std.specs.Option.{option_map_or}
use Rattle.keep_local.specs.declared.shape.Shape.{Shape}
use Rattle.keep_local.specs.declared.turn.Turn.{Turn}
use Rattle.keep_local.specs.Shapes.{top_of, node_of}

-- the run of a level: the number of turns that left at this level, behind the last turn that left higher
unfoldable pub run : ℕ → List Turn → ℕ
run level turns = count_by (λ t. t.left == level) (after_last (λ t. nat_lt level t.left) turns)

-- how many turns a caller has made
abbrev pub turns_of : ℕ → List Turn → ℕ
turns_of caller turns = count_by (λ t. t.caller == caller) turns

-- the last turn, if there is one
abbrev pub last_turn : List Turn → Option Turn
last_turn turns = slice_get turns (length turns - 1)

-- how high the turn behind these has to climb: to where the last one left, and for the first turn to the top
abbrev pub climb_after : Shape → List Turn → ℕ
climb_after shape before = option_map_or (λ t. t.left) (last_turn before) (top_of shape)

-- the two callers are under one node at this level
abbrev pub AreUnderOneNode : Shape → ℕ → Turn → Turn → Type 0
AreUnderOneNode shape level t u = node_of shape t.caller level ≡ node_of shape u.caller level

-- how a turn begins behind the turns before it
pub record Begins (shape : Shape) (before : List Turn) (t : Turn) : Type 0 where
  pub climb : t.climb ≡ climb_after shape before
  pub near : IfSome (last_turn before) (λ last. AreUnderOneNode shape t.climb t last)

-- at this level another caller was queued, and its run is below its keep
pub record IsDue (shape : Shape) (before : List Turn) (tests level : ℕ) : Type 0 where
  pub queued : bit_at tests level ≡ 1
  pub below : run level before < slice_index shape.keeps level

-- the least level below the top that is due, or the top where none is
pub record IsLeft (shape : Shape) (before : List Turn) (tests left : ℕ) : Type 0 where
  pub within : left ≤ top_of shape
  pub due : left < top_of shape → IsDue shape before tests left
  pub least : (level : ℕ) → level < left → ¬ IsDue shape before tests level

-- how a turn ends: it leaves at the least level that is due, and has no test above it and none at the top
pub record Ends (shape : Shape) (before : List Turn) (t : Turn) : Type 0 where
  pub left : IsLeft shape before t.tests t.left
  pub tests : (level : ℕ) → bit_at t.tests level ≡ 1 → (level ≤ t.left) × (level < top_of shape)

-- a closed turn behind the turns before it
pub record Follows (shape : Shape) (before : List Turn) (t : Turn) : Type 0 where
  pub begins : Begins shape before t
  pub ends : Ends shape before t

-- each of some turns follows those before it, and those before the first of them
abbrev pub FollowEachOther : Shape → List Turn → List Turn → Type 0
FollowEachOther shape before [] = Unit {0}
FollowEachOther shape before (t ∷ after) = Follows shape before t × FollowEachOther shape (before ++ t ∷ []) after

-- a list of closed turns is lawful where each turn follows those before it
abbrev pub IsLawful : Shape → List Turn → Type 0
IsLawful shape turns = FollowEachOther shape [] turns

-- closed turns and the open one, if there is one
abbrev pub IsLawfulTrail : Shape → List Turn → Option Turn → Type 0
IsLawfulTrail shape closed current = IsLawful shape closed × IfSome current (λ t. Begins shape closed t)
