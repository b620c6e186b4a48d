-- A journal as the payload of a lock.
use Rattle.std.specs.Prelude.{ℕ, List}
use Rattle.lock_rules.specs.Tag.{Tag}
use Rattle.lock_rules.specs.Trees.{tree_of_lists}
use Rattle.kv_history.specs.Log.{calls}
use Rattle.threaded_runner.specs.declared.book.Book.{Book}

-- the callers of all entries of the journal, void ones included
abbrev pub book_calls : Book → List ℕ
book_calls book = calls book.journal

-- the list of the journal's sections
abbrev pub book_tag : Book → Tag
book_tag book = tree_of_lists book.journal.sections
