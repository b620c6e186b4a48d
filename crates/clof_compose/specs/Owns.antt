-- What the value of a level means, and when it may stand at home.
use Rattle.std.specs.Prelude.{◌≡◌, ℕ, ◌+◌, Bool, true, false, cond, List, IsSomeAnd, Some}
use Rattle.std.specs.Int.{bit_at}
use Rattle.lock_rules.specs.Tag.{Tag, leaf}
use Rattle.keep_local.specs.declared.turn.Turn.{Turn}
use Rattle.keep_local.specs.Shapes.{node_of}
use Rattle.keep_local.specs.Turns.{run, last_turn}
use Rattle.clof_compose.specs.Contexts.{Context, own_tag}
use Rattle.clof_compose.specs.Meanings.{Rest, Stand}
use Rattle.clof_compose.specs.Roots.{root_tag, IsSettled}
use Rattle.clof_compose.specs.declared.root.Root.{Root}
use Rattle.clof_compose.specs.declared.own.High.{High}
use Rattle.clof_compose.specs.declared.own.High.TheVariants.{Idle, Kept, Away}

-- a value that has no high part names no context
abbrev pub no_context : Context
no_context = record { level = 0; node = 0; number = 0; pass = record { lock = leaf 0; tag = leaf 0; number = 0 }; tag = leaf 0 }

abbrev pub bit_of : Bool → ℕ
bit_of b = cond b 1 0

-- the context of the node is idle, and the answer that the value keeps is the one that the last release noted
pub record IsIdle (node : ℕ) (said : Bool) (r : Rest) : Type 0 where
  pub level : ℕ
  pub above : r.context.level ≡ level + 1
  pub number_is : r.context.number ≡ node
  pub said_is : bit_at r.report.tests level ≡ bit_of said

module _ {P : Type 0} (calls : P → List ℕ) (tag : P → Tag) where
  -- the root as a level keeps it: its last turn left at the level, and is of a caller under the node
  pub record IsHandedOver (root_tag_is : Tag) (level node kept : ℕ) (r : Root P) : Type 0 where
    pub tagged : root_tag tag r ≡ root_tag_is
    pub settled : IsSettled calls r
    pub last : Turn
    pub last_is : last_turn r.trail.closed ≡ Some last
    pub left : last.left ≡ level
    pub near : node_of r.trail.shape last.caller level ≡ node
    pub kept_is : kept ≡ run level r.trail.closed

  -- the high lock is kept: somebody was said to be queued behind, and its holder stands
  pub record IsKeptFor (node kept : ℕ) (said : Bool) (stands : Type 0) (s : Stand (Root P)) : Type 0 where
    pub level : ℕ
    pub above : s.context.level ≡ level + 1
    pub number_is : s.context.number ≡ node
    pub said_is : said ≡ true
    pub stands_is : stands
    pub root_is : IsSomeAnd s.root (IsHandedOver s.context.tag level node kept)

module _ {Pass Held : Type 0} where
  -- the part is the pass of the node
  abbrev pub IsIdlePart : High Pass Held → Type 0
  IsIdlePart (Idle p) = Unit {0}
  IsIdlePart (Kept h) = ⊥
  IsIdlePart Away = ⊥

module _ {P Pass Held : Type 0} (rest : Pass → Rest) (stand : Held → Stand (Root P)) where
  -- the context of the node in the high lock
  abbrev pub context_in : High Pass Held → Context
  context_in (Idle p) = (rest p).context
  context_in (Kept h) = (stand h).context
  context_in Away = no_context

  abbrev pub own_tag_of : ℕ → High Pass Held → Tag
  own_tag_of node high = own_tag node (context_in high)

  abbrev pub is_kept : High Pass Held → Bool
  is_kept (Idle p) = false
  is_kept (Kept h) = true
  is_kept Away = false

  -- the value may stand at home
  abbrev pub IsOwnFit : (P → List ℕ) → (P → Tag) → (Held → Type 0) → ℕ → ℕ → Bool → High Pass Held → Type 0
  IsOwnFit calls tag stands node kept said (Idle p) = IsIdle node said (rest p)
  IsOwnFit calls tag stands node kept said (Kept h) = IsKeptFor calls tag node kept said (stands h) (stand h)
  IsOwnFit calls tag stands node kept said Away = ⊥
