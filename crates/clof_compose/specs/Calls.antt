-- What the calls of a composed lock ask and promise.
use Rattle.std.specs.Prelude.{◌≡◌, ℕ, ◌+◌, ◌<◌, ◌≤◌, ◌⊎◌, false, List, [], ◌∷◌, ◌++◌, Option, Some, None}
use Rattle.std.specs.Int.{bit_at}
use Rattle.lock_rules.specs.Tag.{Tag}
use Rattle.keep_local.specs.declared.turn.Turn.{Turn}
use Rattle.keep_local.specs.Shapes.{callers_of}
use Rattle.keep_local.specs.Turns.{Ends, IsDue}
use Rattle.keep_local.specs.States.{TrailState, ShareState, IsTrail, IsShareOf, all_tests, all_turns, callers_in, tests_of}
use Rattle.clof_compose.specs.Contexts.{IsContextOf}
use Rattle.clof_compose.specs.Courses.{Course}
use Rattle.clof_compose.specs.Meanings.{Rest, Climb, Descent}
use Rattle.clof_compose.specs.Roots.{root_tag}
use Rattle.clof_compose.specs.declared.report.Report.{Report}
use Rattle.clof_compose.specs.declared.root.Root.{Root}

-- the share is one of the trail, may make another turn, and is that of a caller under this context of a lock of this level
pub record MayTurn (course : Course) (level number : ℕ) (share : ShareState) : Type 0 where
  pub own : share.name ≡ course.name
  pub known : share.caller < callers_of course.shape
  pub quota : share.made < share.quota
  pub context : IsContextOf course.shape level share.caller number

-- the open turn is this caller's, which climbed to this level or higher
pub record IsOpen (s : TrailState) (caller level : ℕ) : Type 0 where
  pub turn : Turn
  pub now : s.current ≡ Some turn
  pub caller_is : turn.caller ≡ caller
  pub climbed : level ≤ turn.climb

-- The basic pass made an entering step where the token waits. At the lowest level it is the context's own, and it made this one since
-- it rested
pub record HasEntered (level : ℕ) (rest : Rest) (climb : Climb) : Type 0 where
  pub lowest : climb.level ≡ level → climb.entries ≡ rest.entries + 1
  pub entered : 0 < climb.entries

-- the token waits higher, by an entering step there, or it waits where it did by one load more, which did not show the word that it waits
-- for
abbrev pub HasClimbed : Climb → Climb → Type 0
HasClimbed old new = ((old.level < new.level) × (0 < new.entries))
    ⊎ ((new.level ≡ old.level) × (new.loads ≡ old.loads + 1) × (new.ready ≡ false))

-- The last load where the token leaves did not show the word that it waits for. It is the one load of the basic token there since the token
-- held, but for that of `waiter` below the top
pub record HasBegunToLeave (top : ℕ) (loads : ℕ → ℕ) (descent : Descent) : Type 0 where
  pub unready : descent.ready ≡ false
  pub at_top : descent.level ≡ top → descent.loads ≡ loads descent.level + 1
  pub below_top : descent.level < top → descent.loads ≡ loads descent.level + 2

-- the token leaves lower, or it leaves where it did by one load more, and the last load there did not show the word that it waits for
abbrev pub HasDescended : Descent → Descent → Type 0
HasDescended old new = ((new.level < old.level) ⊎ ((new.level ≡ old.level) × (new.loads ≡ old.loads + 1))) × (new.ready ≡ false)

-- the bits below this level are the same
abbrev pub SameBelow : ℕ → ℕ → ℕ → Type 0
SameBelow level tests tests' = (j : ℕ) → j < level → bit_at tests' j ≡ bit_at tests j

module _ {P : Type 0} (calls : P → List ℕ) (tag : P → Tag) where
  -- the root as its new holder finds it: of the lock's tag, the share's caller has opened a turn, and nobody has noted anything or
  -- called the payload for it
  pub record HasOpened (root_tag_is : Tag) (level : ℕ) (share : ShareState) (r : Root P) : Type 0 where
    pub tagged : root_tag tag r ≡ root_tag_is
    pub trail : IsTrail r.trail
    pub calls_are : calls r.payload ≡ callers_in r.trail.closed
    pub is_open : IsOpen r.trail share.caller level
    pub noted : r.trail.noted ≡ 0
    pub share_is : IsShareOf r.trail share

  -- the root as a release may take it: of the lock's tag, the payload's calls are those of all turns, the open turn is of a caller under
  -- the context, exactly the levels below the lock's own are noted, and at none of these must the turn leave
  pub record MayRelease (root_tag_is : Tag) (level number : ℕ) (r : Root P) : Type 0 where
    pub tagged : root_tag tag r ≡ root_tag_is
    pub calls_are : calls r.payload ≡ callers_in (all_turns r.trail)
    pub turn : Turn
    pub now : r.trail.current ≡ Some turn
    pub context : IsContextOf r.trail.shape level turn.caller number
    pub noted : r.trail.noted ≡ level
    pub undue : (j : ℕ) → j < level → ¬ IsDue r.trail.shape r.trail.closed turn.tests j

module _ {P : Type 0} where
  abbrev pub tests_in : Option (Root P) → ℕ
  tests_in None = 0
  tests_in (Some r) = tests_of r.trail.current

  -- The open turn of the root was closed as a release by a holder of a lock of this level closes it, and the report is that of this turn:
  -- below the level its tests are as they were noted, it ends lawfully behind the closed ones at this level or a higher one, and the root's
  -- trail gave a receipt of their tests and this turn's
  pub record ClosesWith (level : ℕ) (report : Report) (r : Root P) : Type 0 where
    pub turn : Turn
    pub now : r.trail.current ≡ Some turn
    pub same : SameBelow level turn.tests report.tests
    pub left : ℕ
    pub above : level ≤ left
    pub ends : Ends r.trail.shape r.trail.closed (record turn { tests = report.tests; left = left })
    pub own : report.receipt.name ≡ r.trail.receipts
    pub told : report.receipt.tests ≡ all_tests r.trail.closed ++ report.tests ∷ []
