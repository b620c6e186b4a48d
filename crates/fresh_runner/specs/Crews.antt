-- What a run gives back.
use Rattle.std.specs.Prelude.{◌≡◌, ◌≤◌, ℕ, true, false, [], length, slice_get, slice_index, vec_capacity, Some}
use Rattle.lock_rules.specs.Tag.{Tag}
use Rattle.keep_local.specs.States.{ShareState}
use Rattle.clof_compose.specs.Contexts.{Context}
use Rattle.clof_compose.specs.Courses.{course_of}
use Rattle.clof_compose.specs.Meanings.{Rest}
use Rattle.clof_compose.specs.Passes.{IsNumber}
use Rattle.clof_compose.specs.Shares.{IsShareIn}
use Rattle.fresh_root.specs.States.{AreAll, IsOf, SeenState}
use Rattle.threaded_runner.specs.Crews.{IsCrew}
use Rattle.threaded_runner.specs.declared.crew.Crew.{Crew}
use Rattle.fresh_runner.specs.Books.{fresh_in}
use Rattle.fresh_runner.specs.Jobs.{IsBlank}
use Rattle.fresh_runner.specs.Places.{places_of}
use Rattle.fresh_runner.specs.declared.account.Marks.{Marks}
use Rattle.fresh_runner.specs.declared.crew.FreshCrew.{FreshCrew}
use Rattle.fresh_runner.specs.declared.lists.Lists.{Lists}

-- empty lists that have room for what as many callers bring
pub record AreEmptied {P : Type 0} (count : ℕ) (lists : Lists P) : Type 0 where
  pub no_passes : lists.passes.items ≡ []
  pub passes_room : count ≤ vec_capacity lists.passes
  pub no_shares : lists.shares.items ≡ []
  pub shares_room : count ≤ vec_capacity lists.shares
  pub no_seens : lists.seens.items ≡ []
  pub seens_room : count ≤ vec_capacity lists.seens
  pub no_marks : lists.marks.items ≡ []
  pub marks_room : count ≤ vec_capacity lists.marks

-- Of each of so many callers its pass, its share, its token and its marks. None has made a turn or seen a call, and there is room for the
-- marks of all its turns. The trail keeps its turns in memory
pub record AreLists {P : Type 0} (rest : P → Rest) (has : Context → Type 0) (level : ℕ) (tag : Tag) (count : ℕ) (lists : Lists P) : Type 0
  where
    pub recorded : (course_of tag).recorded ≡ true
    pub passes : (k : ℕ) (p : P) → slice_get lists.passes.items k ≡ Some p → IsNumber has level tag k (rest p).context
    pub shares : (k : ℕ) (s : ShareState) → slice_get lists.shares.items k ≡ Some s → IsShareIn (course_of tag) k s × (s.made ≡ 0)
    pub seens : (k : ℕ) (s : SeenState) → slice_get lists.seens.items k ≡ Some s
        → IsOf (fresh_in (course_of tag).payload) k s × (s.list ≡ [])
    pub marks : (k : ℕ) (m : Marks) → slice_get lists.marks.items k ≡ Some m → IsBlank (slice_index (course_of tag).quotas k) m
    pub many_passes : length lists.passes.items ≡ count
    pub many_shares : length lists.shares.items ≡ count
    pub many_seens : length lists.seens.items ≡ count
    pub many_marks : length lists.marks.items ≡ count

-- what it gives back beside tokens and marks
abbrev pub crew_in : {P : Type 0} → FreshCrew P → Crew P
crew_in crew = record {
  passes = crew.passes;
  shares = crew.shares;
  refused = crew.refused;
  started = crew.started;
  stopped = crew.stopped;
}

-- What a run without tokens gives back (`IsCrew`), and all tokens, in order. Where the run started, there are marks of each caller: the
-- places at which it stands in what its token last saw, as many as the turns that it made. Else there are none
pub record IsFreshCrew {P : Type 0} (rest : P → Rest) (has : Context → Type 0) (level count : ℕ) (tag : Tag) (crew : FreshCrew P) : Type 0
  where
    pub crew_is : IsCrew rest has level count tag (crew_in crew)
    pub seens_are : AreAll (fresh_in (course_of tag).payload) count crew.seens.items
    pub unmarked : crew.started ≡ false → crew.marks.items ≡ []
    pub many : crew.started ≡ true → length crew.marks.items ≡ count
    pub marked : (k : ℕ) (s : SeenState) (m : Marks) → slice_get crew.seens.items k ≡ Some s → slice_get crew.marks.items k ≡ Some m
        → m.turns.items ≡ places_of k s.list
    pub as_many : (k : ℕ) (s : ShareState) (m : Marks) → slice_get crew.shares.items k ≡ Some s → slice_get crew.marks.items k ≡ Some m
        → length m.turns.items ≡ s.made
