-- What making leaves in the handles. `held` is what each of them has.
use Rattle.std.specs.Prelude.{◌≡◌, ℕ, ◌+◌, ◌<◌, ◌^◌, ◌∷◌, [], ◌++◌, false, List, length, reverse, slice_get}
use Rattle.std.specs.List.{All}
use Rattle.std.specs.declared.option.Option.{Option}
use Rattle.std.specs.declared.option.Option.TheVariants.{None, Some}
use Rattle.std_alloc.specs.declared.boxed.Box.{Box}
use Rattle.std.specs.declared.alloc.Global.{Global}
use Rattle.lock_rules.specs.Tag.{Tag}
use Rattle.keep_local.specs.declared.shape.Shape.{Shape}
use Rattle.keep_local.specs.Shapes.{callers_of, top_of}
use Rattle.keep_local.specs.States.{ShareState, free_quotas, new_shares}
use Rattle.clof_compose.specs.Courses.{course_of}
use Rattle.level_callers.specs.Seen.{IsFresh}
use Rattle.lock_handles.specs.Calls.{IsSomeThat}
use Rattle.level_handles.specs.Calls.{levels_of, seen_of}
use Rattle.level_handles.specs.declared.any_depth.AnyDepth.{AnyDepth}
use Rattle.level_handles.specs.declared.making.Made.{Made}
use Rattle.level_handles.specs.declared.making.Made.TheVariants.{Done, NoMemory, InUse, TooDeep, Refused}

-- the caller with this number of a new lock of so many levels
pub record IsNew (lock : Tag) (levels number : ℕ) (c : AnyDepth) : Type 0 where
  pub fresh : IsFresh lock number (seen_of c)
  pub levels_are : levels_of c ≡ levels

-- the lock is one of callers over this shape, each with its equal part of the turns that can be counted, and its trail keeps none of them
-- in memory
pub record IsLockOf (shape : Shape) (lock : Tag) : Type 0 where
  pub shape_is : (course_of lock).shape ≡ shape
  pub unrecorded : (course_of lock).recorded ≡ false
  pub quotas_are : (course_of lock).quotas ≡ free_quotas (callers_of shape)

-- the tag of a root is for callers over this shape, and these are all its shares
pub record MayMake (tag : Tag) (shape : Shape) (shares : List ShareState) : Type 0 where
  pub lock : IsLockOf shape tag
  pub dealt : shares ≡ new_shares (course_of tag).name (course_of tag).quotas

-- each of the boxes, from the last one on, has what is said of its number
abbrev pub AreBoxed : (ℕ → AnyDepth → Type 0) → List (Box AnyDepth Global) → Type 0
AreBoxed Q boxes = (number : ℕ) (b : Box AnyDepth Global) → slice_get (reverse boxes) number ≡ Some b → Q number b.value

-- a box with this caller stands behind the others
abbrev pub IsAdded : AnyDepth → List (Box AnyDepth Global) → List (Box AnyDepth Global) → Type 0
IsAdded caller old new = (b : Box AnyDepth Global) × (new ≡ old ++ b ∷ []) × (b.value ≡ caller)

-- each of the handles has a caller of which that is said
abbrev pub AreHeld : (ℕ → AnyDepth → Type 0) → List (Option AnyDepth) → Type 0
AreHeld Q held = (number : ℕ) (h : Option AnyDepth) → slice_get held number ≡ Some h → IsSomeThat h (Q number)

abbrev pub AreEmpty : List (Option AnyDepth) → Type 0
AreEmpty = All (λ (h : Option AnyDepth). h ≡ None)

-- there is a handle for each of the shape's callers, of which there are some, and fewer than 2^32
abbrev pub AreFor : Shape → List (Option AnyDepth) → Type 0
AreFor shape held = (length held ≡ callers_of shape) × (0 < length held) × (length held < 2 ^ 32)

-- the handles have the callers of one new lock over the shape, in order
abbrev pub AreFreshOf : Shape → List (Option AnyDepth) → Type 0
AreFreshOf shape held = (lock : Tag) × IsLockOf shape lock × AreHeld (IsNew lock (top_of shape + 1)) held

-- each answer with its cause; at any other than done nothing changes
abbrev pub Makes : Shape → List (Option AnyDepth) → List (Option AnyDepth) → Made → Type 0
Makes shape old new Done = AreFor shape old × (top_of shape < 5) × AreEmpty old × (length new ≡ length old) × AreFreshOf shape new
Makes shape old new NoMemory = AreFor shape old × (top_of shape < 5) × AreEmpty old × (new ≡ old)
Makes shape old new InUse = AreFor shape old × (top_of shape < 5) × (AreEmpty old → ⊥) × (new ≡ old)
Makes shape old new TooDeep = AreFor shape old × (4 < top_of shape) × (new ≡ old)
Makes shape old new Refused = (AreFor shape old → ⊥) × (new ≡ old)
