-- What work under the lock of a plan needs.
use Rattle.std.specs.Prelude.{◌≡◌, ◌+◌, ◌<◌, ◌^◌, List, length}
use Rattle.lock_rules.specs.Tag.{Tag}
use Rattle.keep_local.specs.declared.shape.Shape.{Shape}
use Rattle.keep_local.specs.Shapes.{IsWellFormed, callers_of, top_of}
use Rattle.lock_plan.specs.declared.kind.LockKind.{LockKind}
use Rattle.clof_compose.specs.Courses.{Course, course_of}

-- The tag of a lock's root is for callers who bring this, over a shape whose levels have as many kinds
pub record MayRise {B : Type 0} (tag : Tag) (shape : Shape) (kinds : List LockKind) (dealt : Course → B → Type 0) (brought : B) : Type 0
  where
    pub formed : IsWellFormed shape
    pub few : callers_of shape < 2 ^ 32
    pub shape_is : (course_of tag).shape ≡ shape
    pub kinds_each : length kinds ≡ top_of shape + 1
    pub dealt_is : dealt (course_of tag) brought
