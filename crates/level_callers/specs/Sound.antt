-- What holds of the token and the share of a caller, and what is seen of them.
use Rattle.std.specs.Prelude.{◌≡◌, ℕ, ◌<◌, List, IsSomeAnd}
use Rattle.lock_rules.specs.Tag.{Tag}
use Rattle.keep_local.specs.States.{ShareState}
use Rattle.clof_compose.specs.Calls.{MayRelease}
use Rattle.clof_compose.specs.Contexts.{Context}
use Rattle.clof_compose.specs.Courses.{course_of}
use Rattle.clof_compose.specs.Meanings.{Rest, Climb, Stand, Descent}
use Rattle.clof_compose.specs.Shares.{IsShareIn}
use Rattle.clof_compose.specs.declared.root.Root.{Root}
use Rattle.lock_callers.specs.declared.stage.Stage.{Stage}
use Rattle.lock_callers.specs.declared.stage.Stage.TheVariants.{Idle, Queued, Holding, Leaving, Spent}

module _ {Pass Queue Held Leave P : Type 0} (climb : Queue → Climb) (stand : Held → Stand (Root P)) (descent : Leave → Descent) where
  -- the level at which the token is queued or leaves
  abbrev pub level_of : Stage Pass Queue Held Leave → ℕ
  level_of (Idle p) = 0
  level_of (Queued q) = (climb q).level
  level_of (Holding h) = 0
  level_of (Leaving l) = (descent l).level
  level_of Spent = 0

  -- how many loads it recorded there
  abbrev pub loads_of : Stage Pass Queue Held Leave → ℕ
  loads_of (Idle p) = 0
  loads_of (Queued q) = (climb q).loads
  loads_of (Holding h) = (stand h).loads 0
  loads_of (Leaving l) = (descent l).loads
  loads_of Spent = 0

-- the context is one of the lock's, and is that of the share's caller
pub record IsOwn (has : Context → Type 0) (share : ShareState) (c : Context) : Type 0 where
  pub own : has c
  pub number : c.number ≡ share.caller

module _ {Pass Queue Held Leave P : Type 0} (rest : Pass → Rest) (climb : Queue → Climb) (climbs : Queue → Type 0) (stand : Held
    → Stand (Root P)) (stands : Held → Type 0) (descent : Leave → Descent) (descends : Leave → Type 0) (calls : P
    → List ℕ) (tag_of : P → Tag) (has : Context → Type 0) (level : ℕ) (tag : Tag) (share : ShareState) where
  -- the token is of the lock and of the share's caller, which may make the turn that it is queued for, and may release the lock that it
  -- holds
  abbrev pub IsToken : Stage Pass Queue Held Leave → Type 0
  IsToken (Idle p) = IsOwn has share (rest p).context
  IsToken (Queued q) = IsOwn has share (climb q).context × climbs q × (share.made < share.quota)
  IsToken (Holding h) = IsOwn has share (stand h).context × stands h
      × IsSomeAnd (stand h).root (MayRelease calls tag_of tag level (stand h).context.number)
  IsToken (Leaving l) = IsOwn has share (descent l).context × descends l
  IsToken Spent = Unit {0}

-- the lock is sound and of the lowest level, and the share is that of one of its callers
pub record IsSound (sound : Type 0) (level : ℕ) (tag : Tag) (share : ShareState) (token : Type 0) : Type 0 where
  pub sound_is : sound
  pub lowest : level ≡ 0
  pub share_is : IsShareIn (course_of tag) share.caller share
  pub token_is : token
