-- What the tokens of a level mean.
use Rattle.std.specs.Prelude.{◌≡◌, ℕ, ◌+◌, ◌<◌, Bool, cond, nat_lt, None, IfSome}
use Rattle.std.specs.Int.{bit_at}
use Rattle.lock_rules.specs.Tag.{Tag}
use Rattle.lock_rules.specs.Meanings.{Place}
use Rattle.keep_local.specs.Turns.{run}
use Rattle.clof_compose.specs.Contexts.{Context, own_tag, root_tag_in}
use Rattle.clof_compose.specs.Meanings.{Rest, Climb, Stand, Descent}
use Rattle.clof_compose.specs.Owns.{bit_of, no_context}
use Rattle.clof_compose.specs.declared.root.Root.{Root}
use Rattle.clof_compose.specs.declared.own.High.{High}
use Rattle.clof_compose.specs.declared.own.High.TheVariants.{Idle, Kept, Away}
use Rattle.clof_compose.specs.declared.own.Own.{Own}

-- a context of a level has a pass of its node's basic lock, whose tag tells that of the root
abbrev pub level_context : ℕ → ℕ → ℕ → Place → Context
level_context level node number pass = record { level = level; node = node; number = number; pass = pass; tag = root_tag_in pass.tag }

module _ {Pass Held : Type 0} where
  -- the high lock is kept, and its holder stands
  abbrev pub IsStanding : (Held → Type 0) → High Pass Held → Type 0
  IsStanding stands (Idle p) = ⊥
  IsStanding stands (Kept h) = stands h
  IsStanding stands Away = ⊥

-- the loads of a holder's basic tokens: above this level those of the high lock's holder
abbrev pub loads_from : ℕ → ℕ → (ℕ → ℕ) → ℕ → ℕ
loads_from level own high j = cond (nat_lt level j) (high j) own

module _ {P Pass Held : Type 0} where
  -- what the high lock's holder means, where there is one
  abbrev pub kept_stand : (Held → Stand (Root P)) → High Pass Held → Stand (Root P)
  kept_stand stand (Idle p) = record { context = no_context; loads = λ _. 0; root = None }
  kept_stand stand (Kept h) = stand h
  kept_stand stand Away = record { context = no_context; loads = λ _. 0; root = None }

  abbrev pub high_with_root : (Held → Root P → Held) → High Pass Held → Root P → High Pass Held
  high_with_root put (Idle p) r = Idle p
  high_with_root put (Kept h) r = Kept (put h r)
  high_with_root put Away r = Away

  abbrev pub own_with_root : (Held → Root P → Held) → Own P Pass Held → Root P → Own P Pass Held
  own_with_root put o r = record o { high = high_with_root put o.high r }

-- the high lock's holder stands, what the level keeps of it is right, and nobody was asked yet in this hold
pub record IsHolding {P : Type 0} (level node kept : ℕ) (tag_is : Tag) (stands : Type 0) (s : Stand (Root P)) : Type 0 where
  pub stands_is : stands
  pub above : s.context.level ≡ level + 1
  pub tag_same : own_tag node s.context ≡ tag_is
  pub kept_is : IfSome s.root (λ r. kept ≡ run level r.trail.closed)

-- the value is away from home while its high lock is taken: nobody was asked yet
pub record IsClimbing (level node : ℕ) (tag_is : Tag) (climbs : Type 0) (c : Climb) : Type 0 where
  pub climbs_is : climbs
  pub above : level < c.level
  pub tag_same : own_tag node c.context ≡ tag_is

-- the value is away from home while its high lock is released: what was noted is what the value says
pub record IsDescending (level node : ℕ) (said : Bool) (tag_is : Tag) (descends : Type 0) (d : Descent) : Type 0 where
  pub descends_is : descends
  pub above : level < d.level
  pub context_above : d.context.level ≡ level + 1
  pub tag_same : own_tag node d.context ≡ tag_is
  pub said_is : bit_at d.report.tests level ≡ bit_of said

module _ {P Pass Held : Type 0} where
  -- the value has the pass of its context again, which has these tests
  pub record IsIdleAgain (rest : Pass → Rest) (context : Context) (before after : Own P Pass Held) (tests : ℕ) : Type 0 where
    pub pass : Pass
    pub value_is : after ≡ record before { high = Idle pass }
    pub context_is : (rest pass).context ≡ context
    pub tests_is : (rest pass).report.tests ≡ tests
