-- What the tag of a lock tells of the Fresh at its root.
use Rattle.std.proofs.Common.{◌≡◌, true, ap, sym, ◌∙◌}
use Rattle.lock_rules.specs.Tag.{Tag}
use Rattle.lock_rules.proofs.Trees.{list_in-tree_of}
use Rattle.clof_compose.specs.Courses.{Course, course_of}
use Rattle.clof_compose.specs.Roots.{root_course, root_tag}
use Rattle.clof_compose.specs.declared.root.Root.{Root}
use Rattle.clof_compose.proofs.Tops.{course_is}
use Rattle.fresh_root.specs.States.{FreshState, fresh_tag}
use Rattle.fresh_runner.specs.Books.{book_in, fresh_book_calls, fresh_book_tag, fresh_in, tokens_in}
use Rattle.fresh_runner.specs.declared.book.FreshBook.{FreshBook}

pub name_told : {P : Type 0} (f : FreshState P) → fresh_in (fresh_tag f) ≡ f.name
name_told f = let numbers = list_in-tree_of f.name.slot_names in λ i. record f.name { slot_names = numbers i }

module _ (t : Tag) (r : Root FreshBook) (tagged : root_tag fresh_book_tag r ≡ t) where
  pub course : course_of t ≡ root_course fresh_book_tag r
  course = course_is fresh_book_calls fresh_book_tag t r tagged

  payload_is : (course_of t).payload ≡ fresh_tag r.payload.fresh
  payload_is = ap (λ (c : Course). c.payload) course

  pub fresh_is : fresh_in (course_of t).payload ≡ r.payload.fresh.name
  fresh_is = ap fresh_in payload_is ∙ name_told r.payload.fresh

  pub tokens_are : tokens_in (course_of t).payload ≡ r.payload.fresh.tokens
  tokens_are = ap tokens_in payload_is

  pub book_is : book_in (course_of t).payload ≡ r.payload.fresh.tag
  book_is = ap book_in payload_is

  -- the trail of the root keeps its turns in memory where the tag says so
  pub recorded_is : (course_of t).recorded ≡ true → r.trail.recorded ≡ true
  recorded_is is = sym (ap (λ (c : Course). c.recorded) course) ∙ is
