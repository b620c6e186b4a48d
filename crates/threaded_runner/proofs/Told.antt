-- What a new root's tag tells, and a lock that is made over it.
use Rattle.std.proofs.Common.{◌≡◌, ℕ, List, length, map, refl, ap, sym, ◌∙◌}
use Rattle.atomic_table.specs.Seated.{TableId}
use Rattle.lock_rules.specs.Tag.{Tag}
use Rattle.lock_rules.specs.Trees.{lists_in}
use Rattle.lock_rules.proofs.Trees.{lists_in-tree_of_lists}
use Rattle.keep_local.specs.declared.shape.Shape.{Shape}
use Rattle.keep_local.specs.Shapes.{callers_of}
use Rattle.keep_local.specs.States.{ShareState, TrailState, new_shares, new_trail}
use Rattle.clof_compose.specs.Courses.{Course, course_of}
use Rattle.clof_compose.specs.Roots.{root_tag}
use Rattle.clof_compose.specs.declared.root.Root.{Root}
use Rattle.clof_compose.proofs.Tops.{course_is}
use Rattle.mc_text.specs.Reading.{commands_of}
use Rattle.threaded_runner.specs.Books.{book_calls, book_tag}
use Rattle.threaded_runner.specs.declared.book.Book.{Book}
use Rattle.threaded_runner.specs.Ready.{IsDealt}

-- a root over a new trail and a journal tells its callers what they are dealt
pub dealt : (name receipts : TableId) (shape : Shape) (quotas : List ℕ) (root : Root Book) (sections : List (List ℕ))
    (shares : List ShareState) → root.trail ≡ new_trail name receipts shape quotas → callers_of shape ≡ length sections
    → root.payload.journal.sections ≡ sections → quotas ≡ map (λ (one : List ℕ). length (commands_of one)) sections
    → shares ≡ new_shares name quotas → IsDealt (course_of (root_tag book_tag root)) sections shares
dealt name receipts shape quotas root sections shares trail many told each given =
    let course = course_is book_calls book_tag (root_tag book_tag root) root refl in
    let name_is = ap (λ (c : Course). c.name) course ∙ ap (λ (s : TrailState). s.name) trail in
    let quotas_are = ap (λ (c : Course). c.quotas) course ∙ ap (λ (s : TrailState). s.quotas) trail in
    record {
      callers = ap (λ (c : Course). callers_of c.shape) course ∙ ap (λ (s : TrailState). callers_of s.shape) trail ∙ many;
      told = ap (λ (c : Course). lists_in c.payload) course ∙ lists_in-tree_of_lists root.payload.journal.sections ∙ told;
      quotas = quotas_are ∙ each;
      recorded = ap (λ (c : Course). c.recorded) course ∙ ap (λ (s : TrailState). s.recorded) trail;
      dealt = given ∙ (λ i. new_shares (sym name_is i) (sym quotas_are i));
    }

-- the shape that a new root's tag names
pub shape_told : (t : Tag) (root : Root Book) (shape : Shape) → t ≡ root_tag book_tag root → root.trail.shape ≡ shape
    → (course_of t).shape ≡ shape
shape_told t root shape tagged is = ap (λ (c : Course). c.shape) (course_is book_calls book_tag t root (sym tagged)) ∙ is
