-- What a trail and a share are seen as.
use Rattle.std.specs.Prelude.{◌≡◌, ℕ, ◌+◌, ◌-◌, ◌/◌, ◌^◌, ◌<◌, ◌≤◌, Bool, true, false, cond, if◌then◌else◌}
use Rattle.std.specs.Prelude.{List, [], ◌∷◌, ◌++◌, length, map, max, min, sum, slice_index, slice_set, replicate}
use Rattle.std.specs.Prelude.{All, IfSome, IfNone, Option, Some, None, bit_or}
use Rattle.std.specs.Int.{bit_at}
use Rattle.std.specs.List.{enumerate_from}
use Rattle.atomic_table.specs.Seated.{TableId}
use Rattle.keep_local.specs.declared.shape.Shape.{Shape}
use Rattle.keep_local.specs.declared.turn.Turn.{Turn}
use Rattle.keep_local.specs.Views.{times}
use Rattle.keep_local.specs.Shapes.{top_of, callers_of, IsWellFormed}
use Rattle.keep_local.specs.Turns.{turns_of, IsLeft, IsLawfulTrail}

-- A trail: what tells its table from all others, what tells the table of its receipts, whether it keeps its turns in memory, its shape,
-- the callers' quotas, the closed turns, the open turn, and how many levels were noted for it
pub record TrailState : Type 0 where
  pub name : TableId
  pub receipts : TableId
  pub recorded : Bool
  pub shape : Shape
  pub quotas : List ℕ
  pub closed : List Turn
  pub current : Option Turn
  pub noted : ℕ

-- A share: the name of its trail, its caller, how many turns this caller has made, and how many it may make
pub record ShareState : Type 0 where
  pub name : TableId
  pub caller : ℕ
  pub made : ℕ
  pub quota : ℕ

-- A receipt: the table that it comes from, and the tests of the turns that its trail had closed when it was given, in order
pub record ReceiptState : Type 0 where
  pub name : TableId
  pub tests : List ℕ

-- a receipt of no turn and no trail
abbrev pub no_receipt : ReceiptState
no_receipt = record {
  name = record { words = 0; slots = 0; views_name = 0; atom = 0; block = 0; offset = 0; slot_names = [] };
  tests = [];
}

-- What a trail keeps of the table of its receipts: its name, and the closed turns
pub record NotesState : Type 0 where
  pub name : TableId
  pub turns : List Turn

abbrev pub new_notes : TableId → NotesState
new_notes name = record { name = name; turns = [] }

-- What a trail keeps of its table: its name, the quotas, and the callers of all turns
pub record TieState : Type 0 where
  pub name : TableId
  pub quotas : List ℕ
  pub callers : List ℕ

-- the shares as they are given out, one for each quota
abbrev pub new_share : TableId → ℕ × ℕ → ShareState
new_share name at = record { name = name; caller = at.0; made = 0; quota = at.1 }

abbrev pub new_shares : TableId → List ℕ → List ShareState
new_shares name quotas = map (new_share name) (enumerate_from 0 quotas)

-- what the table's rule says of a share: its caller is one of those with quotas, its quota is that one, and it has made as many turns as
-- its number stands in the list
pub record IsCounted (t : TieState) (share : ShareState) : Type 0 where
  pub own : share.name ≡ t.name
  pub known : share.caller < length t.quotas
  pub quota : share.quota ≡ slice_index t.quotas share.caller
  pub made : share.made ≡ times share.caller t.callers

abbrev pub option_list : Option Turn → List Turn
option_list None = []
option_list (Some t) = t ∷ []

-- all turns, the open one last
abbrev pub all_turns : TrailState → List Turn
all_turns s = s.closed ++ option_list s.current

-- the tests of turns
abbrev pub all_tests : List Turn → List ℕ
all_tests turns = map (λ t. t.tests) turns

-- the tests of an open turn, 0 where there is none
abbrev pub tests_of : Option Turn → ℕ
tests_of None = 0
tests_of (Some t) = t.tests

abbrev pub callers_in : List Turn → List ℕ
callers_in turns = map (λ t. t.caller) turns

-- a share of this trail: its caller is one of the shape's, with its quota, and `made` is the number of this caller's turns, an open one
-- included
pub record IsShareOf (s : TrailState) (share : ShareState) : Type 0 where
  pub own : share.name ≡ s.name
  pub known : share.caller < callers_of s.shape
  pub quota : share.quota ≡ slice_index s.quotas share.caller
  pub made : share.made ≡ turns_of share.caller (all_turns s)

-- a recorded trail before its first turn
abbrev pub new_trail : TableId → TableId → Shape → List ℕ → TrailState
new_trail name receipts shape quotas = record {
  name = name;
  receipts = receipts;
  recorded = true;
  shape = shape;
  quotas = quotas;
  closed = [];
  current = None;
  noted = 0;
}

-- the quota of each of so many callers of an unrecorded trail: their equal part of the greatest number that has 64 bits
abbrev pub free_quota : ℕ → ℕ
free_quota callers = (2 ^ 64 - 1) / max callers 1

abbrev pub free_quotas : ℕ → List ℕ
free_quotas callers = replicate callers (free_quota callers)

-- an unrecorded trail before its first turn
abbrev pub unrecorded_trail : TableId → TableId → Shape → TrailState
unrecorded_trail name receipts shape = record (new_trail name receipts shape (free_quotas (callers_of shape))) { recorded = false }

-- a caller's turn that climbed to the top and left there, since nobody was queued
abbrev pub lone_turn : Shape → ℕ → Turn
lone_turn shape caller = record { caller = caller; climb = top_of shape; tests = 0; left = top_of shape }

-- an unrecorded trail whose caller 0 has made so many turns alone
abbrev pub trail_behind : TableId → TableId → Shape → ℕ → TrailState
trail_behind name receipts shape turns =
    record (unrecorded_trail name receipts shape) { closed = replicate turns (lone_turn shape 0) }

-- its shares: that of caller 0 has made these turns
abbrev pub shares_behind : TableId → ℕ → ℕ → List ShareState
shares_behind name callers turns = slice_set (new_shares name (free_quotas callers)) 0
    (record (new_share name (0, free_quota callers)) { made = turns })

-- the turns that stand in memory: all where the trail is recorded, and none where it isn't
abbrev pub recorded_turns : TrailState → List Turn
recorded_turns s = cond s.recorded (all_turns s) []

-- the turn as it is opened
abbrev pub opened : TrailState → ℕ → ℕ → Turn
opened s caller climb = record { caller = caller; climb = climb; tests = 0; left = top_of s.shape }

-- the tests with this level's bit set where another caller was queued there
abbrev pub with_test : ℕ → ℕ → Bool → ℕ
with_test tests level queued = if queued then bit_or tests (2 ^ level) else tests

abbrev pub tested : Turn → ℕ → Bool → Turn
tested t level queued = record t { tests = with_test t.tests level queued }

abbrev pub left_at : Turn → ℕ → Turn
left_at t level = record t { left = level }

-- the open turn may close at this level: the levels up to it that are below the top were noted, and it is where the turn leaves
pub record MayLeave (s : TrailState) (level : ℕ) (t : Turn) : Type 0 where
  pub noted : s.noted ≡ min (level + 1) (top_of s.shape)
  pub left : IsLeft s.shape s.closed t.tests level

-- an open turn has noted the levels from 0 up, all below the top
pub record IsNoting (shape : Shape) (noted : ℕ) (t : Turn) : Type 0 where
  pub below_top : noted ≤ top_of shape
  pub tests : (level : ℕ) → bit_at t.tests level ≡ 1 → level < noted
  pub left : t.left ≡ top_of shape

-- what holds of every trail at every moment
pub record IsTrail (s : TrailState) : Type 0 where
  pub shaped : IsWellFormed s.shape
  pub few : callers_of s.shape < 2 ^ 32
  -- a run below the top has no more turns than its level's keep, a number of 32 bits
  pub countable : (level : ℕ) → slice_index s.shape.keeps level < 2 ^ 32
  -- a quota for each caller, and no more turns than can be counted, or recorded
  pub quotas : length s.quotas ≡ callers_of s.shape
  pub fits : sum s.quotas < 2 ^ 64
  pub recordable : s.recorded ≡ true → sum s.quotas < 2 ^ 32
  pub lawful : IsLawfulTrail s.shape s.closed s.current
  pub noting : IfSome s.current (λ t. IsNoting s.shape s.noted t)
  pub closed : IfNone s.current (s.noted ≡ 0)
  pub room : length (all_turns s) ≤ sum s.quotas
  -- each turn is of a caller of the shape
  pub known : All (λ t. t.caller < callers_of s.shape) (all_turns s)
