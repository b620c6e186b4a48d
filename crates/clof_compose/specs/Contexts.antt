-- Which context of which lock a token is of.
use Rattle.std.specs.Prelude.{◌≡◌, ℕ, ◌+◌, ◌<◌, ◌↔◌}
use Rattle.lock_rules.specs.Tag.{Tag, leaf, fork}
use Rattle.lock_rules.specs.Meanings.{Place}
use Rattle.keep_local.specs.declared.shape.Shape.{Shape}
use Rattle.keep_local.specs.Shapes.{callers_of, node_of, HasNode}
use Rattle.clof_compose.specs.Courses.{left_of}

-- A context of a composed lock: the lock's level, the node under which the context stands, its number, which pass of the node's basic lock
-- it has, and the tag of the lock's root
pub record Context : Type 0 where
  pub level : ℕ
  pub node : ℕ
  pub number : ℕ
  pub pass : Place
  pub tag : Tag

-- the tag of a level's value: its node, and the context of the node in the high lock
unfoldable pub own_tag : ℕ → Context → Tag
own_tag node c = fork c.tag (fork (leaf node) (fork (leaf c.level) (fork (leaf c.node) (fork (leaf c.number) (fork c.pass.lock (fork
    c.pass.tag (leaf c.pass.number)))))))

-- the tag of the root that is reached from there
unfoldable pub root_tag_in : Tag → Tag
root_tag_in t = left_of t

-- the context that a caller stands under in a lock of this level: at level 0 its own, and else that of its node one level below
pub record IsContextOf (shape : Shape) (level caller number : ℕ) : Type 0 where
  pub lowest : level ≡ 0 → number ≡ caller
  pub higher : (k : ℕ) → level ≡ k + 1 → number ≡ node_of shape caller k

-- a lock of this level has so many contexts: at level 0 one for each caller, and else one for each node one level below
pub record AreContexts (shape : Shape) (level count : ℕ) : Type 0 where
  pub lowest : level ≡ 0 → count ≡ callers_of shape
  pub higher : (k : ℕ) → level ≡ k + 1 → (n : ℕ) → (n < count) ↔ HasNode shape k n
