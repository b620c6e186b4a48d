-- Where the callers of a walk stand.
use Rattle.std.specs.Prelude.{◌≡◌, ℕ, ◌<◌, IsSomeAnd}
use Rattle.keep_local.specs.States.{ShareState}
use Rattle.lock_rules.specs.Tag.{Tag}
use Rattle.clof_compose.specs.Calls.{HasOpened}
use Rattle.clof_compose.specs.Contexts.{Context}
use Rattle.clof_compose.specs.Courses.{course_of}
use Rattle.clof_compose.specs.Passes.{IsNumber}
use Rattle.clof_compose.specs.Meanings.{Rest, Climb, Stand, Descent}
use Rattle.clof_compose.specs.Shares.{IsShareIn}
use Rattle.clof_compose.specs.declared.root.Root.{Root}
use Rattle.level_harness.specs.Rooms.{roll_tag}
use Rattle.level_harness.specs.declared.roll.Roll.{Roll}
use Rattle.level_harness.specs.declared.walker.Walker.{Walker}
use Rattle.level_harness.specs.declared.walker.State.{State}
use Rattle.level_harness.specs.declared.walker.State.TheVariants.{Idle, Queued, Holding, Leaving, Stepping}
use Rattle.level_harness.specs.declared.walker.Stood.{Stood}
use Rattle.level_harness.specs.declared.walker.Stood.TheVariants.{Idle as StoodIdle, Queued as StoodQueued, Holding as StoodHolding}
use Rattle.level_harness.specs.declared.walker.Stood.TheVariants.{Leaving as StoodLeaving, Nowhere}

module _ {P Q H L : Type 0} (rest : P → Rest) (climb : Q → Climb) (climbs : Q → Type 0) (stand : H → Stand (Root Roll))
    (stands : H → Type 0) (descent : L → Descent) (descends : L → Type 0) (has : Context → Type 0) (level : ℕ) (tag : Tag) where
  -- the token is that of the caller with this share, and says no more than its contract allows
  abbrev pub Stands : State P Q H L → ShareState → Type 0
  Stands (Idle p) s = IsNumber has level tag s.caller (rest p).context
  Stands (Queued q) s = IsNumber has level tag s.caller (climb q).context × climbs q × (s.made < s.quota)
  Stands (Holding h) s = IsNumber has level tag s.caller (stand h).context × stands h
      × IsSomeAnd (stand h).root (HasOpened (λ (r : Roll). r.callers.items) roll_tag tag level s)
  Stands (Leaving l) s = IsNumber has level tag s.caller (descent l).context × descends l
  Stands Stepping s = ⊥

  -- the caller with this number, and where it stands
  pub record IsWalker (number : ℕ) (w : Walker P Q H L) : Type 0 where
    pub share_is : IsShareIn (course_of tag) number w.share
    pub stands_is : Stands w.state w.share

module _ {P Q H L : Type 0} (climb : Q → Climb) (descent : L → Descent) where
  -- where a caller in this state stands, and at which level
  abbrev pub stood_of : State P Q H L → Stood
  stood_of (Idle p) = StoodIdle
  stood_of (Queued q) = StoodQueued (climb q).level
  stood_of (Holding h) = StoodHolding
  stood_of (Leaving l) = StoodLeaving (descent l).level
  stood_of Stepping = Nowhere

module _ {P Q H L : Type 0} where
  abbrev pub IsIdle : State P Q H L → Type 0
  IsIdle (Idle p) = Unit {0}
  IsIdle _ = ⊥

  -- the caller is idle, and has no command left
  pub record IsDone (w : Walker P Q H L) : Type 0 where
    pub idle : IsIdle w.state
    pub made : w.share.made ≡ w.share.quota
