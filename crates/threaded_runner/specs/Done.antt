-- The shares of callers that have given all their commands.
use Rattle.std.specs.Prelude.{◌≡◌, ℕ, List, slice_get, slice_index, Some}
use Rattle.atomic_table.specs.Seated.{TableId}
use Rattle.keep_local.specs.States.{ShareState}

-- each is the share of the caller with its number in this trail, and has made all turns of its quota
pub record IsDone (name : TableId) (quotas : List ℕ) (caller : ℕ) (share : ShareState) : Type 0 where
  pub own : share.name ≡ name
  pub caller_is : share.caller ≡ caller
  pub made : share.made ≡ slice_index quotas caller

abbrev pub AreDone : TableId → List ℕ → List ShareState → Type 0
AreDone name quotas shares = (k : ℕ) (s : ShareState) → slice_get shares k ≡ Some s → IsDone name quotas k s
