-- A book beside its counted history, as the payload of a lock.
use Rattle.std.specs.Prelude.{ℕ, List}
use Rattle.atomic_table.specs.Seated.{TableId}
use Rattle.lock_rules.specs.Tag.{Tag}
use Rattle.lock_rules.specs.Trees.{list_in, number_in}
use Rattle.clof_compose.specs.Courses.{Course, left_of, name_from, right_of}
use Rattle.fresh_root.specs.States.{fresh_calls, fresh_tag}
use Rattle.fresh_runner.specs.declared.book.FreshBook.{FreshBook}

-- the callers of all calls, and behind them a number that is no caller's while the book is out
abbrev pub fresh_book_calls : FreshBook → List ℕ
fresh_book_calls book = fresh_calls book.fresh

-- which Fresh it is, how many tokens it gave, and the list of the journal's sections
abbrev pub fresh_book_tag : FreshBook → Tag
fresh_book_tag book = fresh_tag book.fresh

-- what such a tag tells: which Fresh it is
abbrev pub fresh_in : Tag → TableId
fresh_in t = name_from (list_in (left_of t))

-- how many tokens it gave
abbrev pub tokens_in : Tag → ℕ
tokens_in t = number_in (left_of (right_of t))

-- and the tag of the book
abbrev pub book_in : Tag → Tag
book_in t = right_of (right_of t)

-- what the tag of a lock tells, with the book as its payload
abbrev pub book_course : Course → Course
book_course course = record course { payload = book_in course.payload }
