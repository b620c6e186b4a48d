-- What the callers of a run have, and what it leaves.
use Rattle.std.specs.Prelude.{◌≡◌, ℕ, List, Some, length, slice_get}
use Rattle.lock_rules.specs.Trees.{lists_in}
use Rattle.keep_local.specs.Shapes.{callers_of}
use Rattle.keep_local.specs.States.{callers_in}
use Rattle.clof_compose.specs.Courses.{Course}
use Rattle.threaded_runner.specs.Finished.{IsFinished}
use Rattle.threaded_runner.specs.declared.finishing.Finished.{Finished}
use Rattle.fresh_runner.specs.Books.{book_course}
use Rattle.fresh_runner.specs.Marked.{AreMarked}
use Rattle.fresh_runner.specs.declared.finishing.Marked.{Marked}

-- each caller has its job, and there is room for what comes back
pub record AreDealt {J : Type 0} (is_job : ℕ → J → Type 0) (count : ℕ) (room : Type 0) (jobs : List J) : Type 0 where
  pub each : (k : ℕ) (j : J) → slice_get jobs k ≡ Some j → is_job k j
  pub many : length jobs ≡ count
  pub room_is : room

-- a run has finished, over the shape and of the sections that the tag of its lock tells
pub record IsLeft (course : Course) (left : Finished) : Type 0 where
  pub finished : IsFinished left.trail left.journal
  pub shape_is : left.trail.shape ≡ course.shape
  pub sections_are : left.journal.sections ≡ lists_in course.payload

-- so has one with receipts, and the marks of each caller are the numbers of its turns
pub record IsLeftMarked (course : Course) (made : Marked) : Type 0 where
  pub left_is : IsLeft (book_course course) made.left
  pub marks_are : AreMarked (callers_in made.left.trail.closed) (callers_of course.shape) made.marks.items
