-- What a run gives back.
use Rattle.std.specs.Prelude.{◌≡◌, ◌≤◌, ◌||◌, ℕ, Bool, true, false, not, [], length, slice_get, vec_capacity, All, Some}
use Rattle.std.specs.declared.vec.Vec.{Vec}
use Rattle.std.specs.declared.alloc.Global.{Global}
use Rattle.std.specs.List.{list_any}
use Rattle.lock_rules.specs.Tag.{Tag}
use Rattle.keep_local.specs.States.{ShareState}
use Rattle.clof_compose.specs.Contexts.{Context}
use Rattle.clof_compose.specs.Courses.{course_of}
use Rattle.clof_compose.specs.Meanings.{Rest}
use Rattle.clof_compose.specs.Passes.{AreAll}
use Rattle.clof_compose.specs.Shares.{IsShareIn}
use Rattle.threaded_runner.specs.declared.crew.Crew.{Crew}

-- empty lists that have room for as many passes, shares and answers as there are callers
pub record HasRoom {P : Type 0} (count : ℕ) (passes : Vec P Global) (shares : Vec ShareState Global) (stopped : Vec Bool Global) : Type 0
  where
    pub no_passes : passes.items ≡ []
    pub passes_room : count ≤ vec_capacity passes
    pub no_shares : shares.items ≡ []
    pub shares_room : count ≤ vec_capacity shares
    pub none_stopped : stopped.items ≡ []
    pub stopped_room : count ≤ vec_capacity stopped

-- All passes and all shares of a lock came back, in order. Where the run didn't start no caller has made a turn; where it did, of each
-- caller it is told whether it stopped, and each that didn't has made all its turns. Memory was refused exactly where the run didn't start
-- or some caller stopped
pub record IsCrew {P : Type 0} (rest : P → Rest) (has : Context → Type 0) (level count : ℕ) (tag : Tag) (crew : Crew P) : Type 0 where
  pub passes : AreAll (λ p. (rest p).context) has level tag count crew.passes.items
  pub many : length crew.shares.items ≡ count
  pub shares : (k : ℕ) (s : _) → slice_get crew.shares.items k ≡ Some s → IsShareIn (course_of tag) k s
  pub not_started : crew.started ≡ false → (crew.stopped.items ≡ []) × All (λ s. s.made ≡ 0) crew.shares.items
  pub each : crew.started ≡ true → length crew.stopped.items ≡ count
  pub made : (k : ℕ) (s : _) → slice_get crew.stopped.items k ≡ Some false → slice_get crew.shares.items k ≡ Some s → s.made ≡ s.quota
  pub refused : crew.refused ≡ (not crew.started || list_any (λ stops. stops) crew.stopped.items)
