-- The share of a caller.
use Rattle.std.specs.Prelude.{◌≡◌, ℕ, ◌<◌, slice_index}
use Rattle.keep_local.specs.Shapes.{callers_of}
use Rattle.keep_local.specs.States.{ShareState}
use Rattle.clof_compose.specs.Courses.{Course}

-- the share is this caller's in the trail that the course names
pub record IsShareIn (course : Course) (caller : ℕ) (share : ShareState) : Type 0 where
  pub own : share.name ≡ course.name
  pub caller_is : share.caller ≡ caller
  pub known : caller < callers_of course.shape
  pub quota : share.quota ≡ slice_index course.quotas caller
