-- What a new root's tag tells.
use Rattle.std.proofs.Common.{◌≡◌, ℕ, List, [], length, refl, ap, sym, ◌∙◌, subst}
use Rattle.std.specs.Prelude.{All}
use Rattle.atomic_table.specs.Seated.{TableId}
use Rattle.keep_local.specs.States.{ShareState}
use Rattle.clof_compose.specs.Courses.{Course, course_of}
use Rattle.clof_compose.specs.Roots.{root_course, root_tag}
use Rattle.clof_compose.specs.declared.root.Root.{Root}
use Rattle.clof_compose.proofs.Tops.{course_is}
use Rattle.fresh_root.specs.States.{AreAll, SeenState}
use Rattle.threaded_runner.specs.Books.{book_calls, book_tag}
use Rattle.threaded_runner.specs.Ready.{IsDealt}
use Rattle.threaded_runner.specs.declared.book.Book.{Book}
use Rattle.fresh_runner.specs.Books.{book_course, fresh_book_tag}
use Rattle.fresh_runner.specs.Ready.{IsFreshDealt}
use Rattle.fresh_runner.specs.declared.book.FreshBook.{FreshBook}
use Rattle.fresh_runner.proofs.Tags.{course, fresh_is, tokens_are}

-- what a root with a book tells its callers, the same root with the book's history tells them too, and which tokens there are
pub fresh_dealt : (root : Root Book) (r : Root FreshBook) (sections : List (List ℕ)) (shares : List ShareState) (seens : List SeenState)
    → r.trail ≡ root.trail → r.payload.fresh.tag ≡ book_tag root.payload → IsDealt (course_of (root_tag book_tag root)) sections shares
    → r.payload.fresh.tokens ≡ length sections → AreAll r.payload.fresh.name (length sections) seens
    → All (λ (s : SeenState). s.list ≡ []) seens → IsFreshDealt (course_of (root_tag fresh_book_tag r)) sections shares seens
fresh_dealt root r sections shares seens trail tag dealt tokens all blank =
    let told = course_is book_calls book_tag (root_tag book_tag root) root refl in
    let same : root_course book_tag root ≡ book_course (root_course fresh_book_tag r) = λ i. record {
      name = (sym trail i).name;
      receipts = (sym trail i).receipts;
      recorded = (sym trail i).recorded;
      shape = (sym trail i).shape;
      quotas = (sym trail i).quotas;
      payload = sym tag i;
    } in
    record {
      dealt = subst (λ (c : Course). IsDealt c sections shares) (told ∙ same ∙ ap book_course (sym (course (root_tag fresh_book_tag r) r
          refl)))
          dealt;
      tokens = tokens_are (root_tag fresh_book_tag r) r refl ∙ tokens;
      seens_are = subst (λ (n : TableId). AreAll n (length sections) seens) (sym (fresh_is (root_tag fresh_book_tag r) r refl)) all;
      blank = blank;
    }
