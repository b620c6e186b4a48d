-- How a lock stands before its callers work.
use Rattle.std.specs.Prelude.{◌≡◌, ℕ, List, [], All, length}
use Rattle.clof_compose.specs.Courses.{Course}
use Rattle.fresh_root.specs.States.{AreAll, SeenState}
use Rattle.keep_local.specs.States.{ShareState}
use Rattle.threaded_runner.specs.Ready.{IsDealt}
use Rattle.fresh_runner.specs.Books.{book_course, fresh_in, tokens_in}

-- What the tag of a lock tells its callers who have these sections: what it tells them of a book (`IsDealt`), and which Fresh is at the
-- root, which gave them all its tokens. These have seen nothing
pub record IsFreshDealt (course : Course) (sections : List (List ℕ)) (shares : List ShareState) (seens : List SeenState) : Type 0 where
  pub dealt : IsDealt (book_course course) sections shares
  pub tokens : tokens_in course.payload ≡ length sections
  pub seens_are : AreAll (fresh_in course.payload) (length sections) seens
  pub blank : All (λ s. s.list ≡ []) seens
