-- How a level's locks belong together.
use Rattle.std.specs.Prelude.{◌≡◌, ℕ, ◌+◌, ◌<◌, ◌≤◌, ◌==◌, List, [], All, map, slice_get, slice_index, Some, length, take, vec_capacity}
use Rattle.std.specs.List.{count_by}
use Rattle.lock_rules.specs.Tag.{Tag}
use Rattle.lock_rules.specs.Meanings.{Place}
use Rattle.lock_rules.specs.Passes.{IsOf, AreAll as AreAllLow}
use Rattle.keep_local.specs.declared.shape.Shape.{Shape}
use Rattle.keep_local.specs.Shapes.{top_of, callers_of, node_of}
use Rattle.clof_compose.specs.Contexts.{Context, IsContextOf, own_tag}
use Rattle.clof_compose.specs.Courses.{course_of}
use Rattle.clof_compose.specs.Levels.{level_context}
use Rattle.clof_compose.specs.Passes.{IsNumber}
use Rattle.clof_compose.specs.declared.level_tokens.LevelPass.{LevelPass}
use Rattle.clof_compose.specs.declared.node.Node.{Node}

-- the context that a node of a level has in the high lock: the one of its number
abbrev pub IsContextOfNode : (Context → Type 0) → ℕ → Tag → ℕ → Context → Type 0
IsContextOfNode has level tag node c = IsNumber has (level + 1) tag node c

-- the level in the shape: it is below the top, has its keep, and each caller's context is under the caller's node
pub record IsInShape (shape : Shape) (level keep : ℕ) (parents : List ℕ) : Type 0 where
  pub below_top : level < top_of shape
  pub keep_is : keep ≡ slice_index shape.keeps level
  pub paths : (w c : ℕ) → w < callers_of shape → IsContextOf shape level w c → slice_get parents c ≡ Some (node_of shape w level)

-- how many of the first k contexts stand under a node
abbrev pub under : List ℕ → ℕ → ℕ → ℕ
under parents node k = count_by (λ p. p == node) (take k parents)

module _ {B : Type 0} (tag : B → Tag) where
  -- the basic lock of a node: its tag is that of the node and of its context in the high lock
  pub record IsLockOf (has : Context → Type 0) (high_level : ℕ) (root_tag_is : Tag) (number : ℕ) (lock : B) : Type 0 where
    pub context : Context
    pub tag_is : tag lock ≡ own_tag number context
    pub is : IsNumber has high_level root_tag_is number context

  -- a basic lock for each node, in the order of their numbers
  abbrev pub AreLocks : (Context → Type 0) → ℕ → Tag → List B → Type 0
  AreLocks has high_level root_tag_is locks = (n : ℕ) (lock : B) → slice_get locks n ≡ Some lock
      → IsLockOf has high_level root_tag_is n lock

module _ {B : Type 0} (name tag : B → Tag) where
  -- the context is one of the level: under its parent, with the pass of the node's basic lock that falls to it
  pub record IsOfLevel (level : ℕ) (parents : List ℕ) (locks : List B) (c : Context) : Type 0 where
    pub context_is : c ≡ level_context level c.node c.number c.pass
    pub node_is : slice_get parents c.number ≡ Some c.node
    pub pass_is : (lock : B) → slice_get locks c.node ≡ Some lock → IsOf (name lock) (tag lock) c.pass
    pub number_is : c.pass.number ≡ under parents c.node c.number

  -- the pass of a basic lock that falls to the context k
  abbrev pub FallsTo : List ℕ → List B → ℕ → Place → Type 0
  FallsTo parents locks k place = (n : ℕ) (lock : B) → slice_get parents k ≡ Some n → slice_get locks n ≡ Some lock
      → place ≡ record { lock = name lock; tag = tag lock; number = under parents n k }

module _ {B L : Type 0} where
  abbrev pub locks_of : List (Node B L) → List B
  locks_of nodes = map (λ n. n.lock) nodes

  -- each node's basic lock is one that the recipe makes
  abbrev pub AreMade : {R : Type 0} → (B → R → Type 0) → R → List (Node B L) → Type 0
  AreMade made recipe nodes = All (λ lock. made lock recipe) (locks_of nodes)

module _ {B L : Type 0} (name tag : B → Tag) (count : B → ℕ) (place : L → Place) where
  -- A node's basic lock has a pass for each context under the node. Its list has room for all of them, and has those that fall to the first
  -- k contexts
  pub record IsFilled (parents : List ℕ) (k number : ℕ) (node : Node B L) : Type 0 where
    pub count_is : count node.lock ≡ under parents number (length parents)
    pub lows : AreAllLow place (name node.lock) (tag node.lock) (under parents number k) node.list.items
    pub room : count node.lock ≤ vec_capacity node.list

  abbrev pub AreFilled : List ℕ → ℕ → List (Node B L) → Type 0
  AreFilled parents k nodes = (n : ℕ) (node : Node B L) → slice_get nodes n ≡ Some node → IsFilled parents k n node

  -- a node's list has all passes of its basic lock
  abbrev pub AreFull : List (Node B L) → Type 0
  AreFull nodes = (n : ℕ) (node : Node B L) → slice_get nodes n ≡ Some node → AreAllLow place (name node.lock) (tag node.lock) (count
      node.lock) node.list.items

  -- A level over a high lock: the high lock is sound and one level higher, there is a node for each of its contexts, and while the level
  -- is in use no list has any passes
  pub record IsLevel {H : Type 0} (has : Context → Type 0) (sound : Type 0) (high_level high_count : ℕ) (root_tag_is : Tag) (level keep : ℕ)
      (parents : List ℕ) (nodes : List (Node B L)) (list : List H) (capacity : ℕ) : Type 0 where
    pub high_is : sound
    pub above : high_level ≡ level + 1
    pub shape_is : IsInShape (course_of root_tag_is).shape level keep parents
    pub all_nodes : length nodes ≡ high_count
    pub parents_are : (c n : ℕ) → slice_get parents c ≡ Some n → n < length nodes
    pub locks_are : AreLocks tag has high_level root_tag_is (locks_of nodes)
    pub unfilled : AreFilled parents 0 nodes
    pub empty : list ≡ []
    pub room : high_count ≤ capacity

module _ {B L : Type 0} (name tag : B → Tag) (place : L → Place) where
  -- the pass of the context k as it is made: it has the pass of the node's basic lock that falls to the context, and has released nothing
  pub record IsGiven (level : ℕ) (parents : List ℕ) (locks : List B) (k : ℕ) (p : LevelPass L) : Type 0 where
    pub level_is : p.id.level ≡ level
    pub number_is : p.id.number ≡ k
    pub node_is : slice_get parents k ≡ Some p.id.node
    pub falls : FallsTo name tag parents locks k (place p.low)
    pub fresh : p.report.tests ≡ 0
