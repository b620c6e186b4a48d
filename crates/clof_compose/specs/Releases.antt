-- How a node's holder releases.
use Rattle.std.specs.Prelude.{◌≡◌, ℕ, ◌+◌, ◌<◌, Bool, List, Some, option_map, slice_index}
use Rattle.lock_rules.specs.Tag.{Tag}
use Rattle.keep_local.specs.declared.turn.Turn.{Turn}
use Rattle.keep_local.specs.Shapes.{top_of, callers_of, node_of}
use Rattle.keep_local.specs.Turns.{IsDue}
use Rattle.keep_local.specs.States.{callers_in, all_turns, tested}
use Rattle.clof_compose.specs.Roots.{root_tag}
use Rattle.clof_compose.specs.declared.root.Root.{Root}

-- the root as a node's release finds it: a release may take it, the open turn is of a caller under the node, and the level has this keep
-- in the shape
pub record IsReleasing {P : Type 0} (calls : P → List ℕ) (tag : P
    → Tag) (root_tag_is : Tag) (level keep node : ℕ) (r : Root P) : Type 0 where
  pub tagged : root_tag tag r ≡ root_tag_is
  pub calls_are : calls r.payload ≡ callers_in (all_turns r.trail)
  pub turn : Turn
  pub now : r.trail.current ≡ Some turn
  pub near : turn.caller < callers_of r.trail.shape → node_of r.trail.shape turn.caller level ≡ node
  pub keep_is : keep ≡ slice_index r.trail.shape.keeps level
  pub below_top : level < top_of r.trail.shape
  pub noted : r.trail.noted ≡ level
  pub undue : (j : ℕ) → j < level → ¬ IsDue r.trail.shape r.trail.closed turn.tests j

-- the answer was noted for the open turn of the root at this level, and nothing else has changed
pub record HasNoted {P : Type 0} (level : ℕ) (yes : Bool) (old new : Root P) : Type 0 where
  pub payload : new.payload ≡ old.payload
  pub trail : new.trail ≡ record old.trail { current = option_map (λ t. tested t level yes) old.trail.current; noted = level + 1 }
