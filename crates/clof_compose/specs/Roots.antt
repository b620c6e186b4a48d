-- What the root of a composed lock means.
use Rattle.std.specs.Prelude.{◌≡◌, ℕ, ◌<◌, List, ◌++◌, All, IfSome, None}
use Rattle.lock_rules.specs.Tag.{Tag}
use Rattle.keep_local.specs.declared.turn.Turn.{Turn}
use Rattle.keep_local.specs.Shapes.{top_of}
use Rattle.keep_local.specs.Turns.{last_turn}
use Rattle.keep_local.specs.States.{TrailState, IsTrail, callers_in}
use Rattle.clof_compose.specs.Courses.{Course, course_tag}
use Rattle.clof_compose.specs.declared.root.Root.{Root}

module _ {P : Type 0} where
  -- the turns of the lock's callers
  abbrev pub trail_of : Root P → TrailState
  trail_of r = r.trail

  -- what the callers work on
  abbrev pub payload_of : Root P → P
  payload_of r = r.payload

  -- the root with another payload
  abbrev pub with_payload : Root P → P → Root P
  with_payload r p = record r { payload = p }

module _ {P : Type 0} (tag : P → Tag) where
  -- what names the trail, whether it keeps its turns in memory, its shape and its quotas, and the payload's tag
  abbrev pub root_course : Root P → Course
  root_course r = record {
    name = r.trail.name;
    receipts = r.trail.receipts;
    recorded = r.trail.recorded;
    shape = r.trail.shape;
    quotas = r.trail.quotas;
    payload = tag r.payload;
  }

  abbrev pub root_tag : Root P → Tag
  root_tag r = course_tag (root_course r)

module _ {P : Type 0} (calls : P → List ℕ) where
  -- all turns are closed and lawful, and the payload's calls are those of their callers, in order
  pub record IsSettled (r : Root P) : Type 0 where
    pub trail : IsTrail r.trail
    pub closed : r.trail.current ≡ None
    pub calls_are : calls r.payload ≡ callers_in r.trail.closed

  -- the root may stand at home in the top lock: it is settled, and its last turn left at the top
  pub record IsFit (r : Root P) : Type 0 where
    pub settled : IsSettled r
    pub left : IfSome (last_turn r.trail.closed) (λ t. t.left ≡ top_of r.trail.shape)

  -- the root may be in a holder's hands: its trail is lawful, and it is settled where no turn is open
  pub record IsInHand (r : Root P) : Type 0 where
    pub trail : IsTrail r.trail
    pub settled : r.trail.current ≡ None → calls r.payload ≡ callers_in r.trail.closed

  -- what a holder of a lock of this level may make of the root: of the same trail, with the closed turns from before and turns that left
  -- lower
  pub record IsKept (level : ℕ) (old new : Root P) : Type 0 where
    pub name : new.trail.name ≡ old.trail.name
    pub receipts : new.trail.receipts ≡ old.trail.receipts
    pub recorded : new.trail.recorded ≡ old.trail.recorded
    pub shape : new.trail.shape ≡ old.trail.shape
    pub quotas : new.trail.quotas ≡ old.trail.quotas
    pub more : List Turn
    pub closed : new.trail.closed ≡ old.trail.closed ++ more
    pub lower : All (λ t. t.left < level) more
    pub in_hand : IsInHand new
