-- What a holder knows of its command.
use Rattle.std.proofs.Common.{◌≡◌, ℕ, ◌+◌, ◌++◌, [], ◌∷◌, true, List, ap, sym, ◌∙◌, arith}
use Rattle.std.specs.Prelude.{Option, slice_get, ◌==◌}
use Rattle.std.proofs.lemmas.Bool.{eq-eqb}
use Rattle.std.proofs.lemmas.List.Sums.{sum_by-append, sum_by-cons}
use Rattle.lock_rules.specs.Tag.{Tag}
use Rattle.lock_rules.specs.Trees.{lists_in}
use Rattle.lock_rules.proofs.Trees.{lists_in-tree_of_lists}
use Rattle.keep_local.specs.declared.turn.Turn.{Turn}
use Rattle.keep_local.specs.States.{ShareState, all_turns, option_list}
use Rattle.keep_local.specs.Turns.{turns_of}
use Rattle.keep_local.specs.Views.{times}
use Rattle.keep_local.proofs.Counts.{one_if}
use Rattle.keep_local.proofs.Trails.{times_callers}
use Rattle.clof_compose.specs.Calls.{HasOpened}
use Rattle.clof_compose.specs.Courses.{Course, course_of}
use Rattle.clof_compose.specs.Roots.{root_course}
use Rattle.clof_compose.specs.declared.root.Root.{Root}
use Rattle.clof_compose.proofs.Tops.{course_is}
use Rattle.mc_text.specs.Request.{WholeCommand}
use Rattle.mc_text.specs.Reading.{commands_of}
use Rattle.kv_history.specs.Log.{IsNext, calls}
use Rattle.threaded_runner.specs.Books.{book_calls, book_tag}
use Rattle.threaded_runner.specs.Jobs.{IsCommandAt}
use Rattle.threaded_runner.specs.declared.book.Book.{Book}

-- a caller's turns with one more of it
one_more : (caller : ℕ) (turns : List Turn) (t : Turn) → t.caller ≡ caller → turns_of caller (turns ++ t ∷ []) ≡ turns_of caller turns + 1
one_more caller turns t own =
    let yes : (t.caller == caller) ≡ true = eq-eqb t.caller caller own in
    let cut = sum_by-append (λ (u : Turn). one_if (u.caller == caller)) turns (t ∷ []) in
    let last = sum_by-cons (λ (u : Turn). one_if (u.caller == caller)) t [] in
    let one : one_if (t.caller == caller) ≡ 1 = ap one_if yes in
    omega (arith, cut, last, one)

-- the sections of a journal at the root are those that the lock's tag tells
pub sections_told : (t : Tag) (r : Root Book) → course_of t ≡ root_course book_tag r
    → lists_in (course_of t).payload ≡ r.payload.journal.sections
sections_told t r is = ap (λ (c : Course). lists_in c.payload) is ∙ lists_in-tree_of_lists r.payload.journal.sections

-- the command at the place of the turns made before is the one that the journal takes next
pub takes_next : (t : Tag) (level made : ℕ) (share : ShareState) (r : Root Book) (command : WholeCommand)
    → HasOpened book_calls book_tag t level share r → share.made ≡ made + 1 → IsCommandAt (course_of t).payload share.caller made command
    → IsNext r.payload.journal.sections (calls r.payload.journal) share.caller command
takes_next t level made share r command opened more at =
    let is = course_is book_calls book_tag t r opened.tagged in
    let turn = opened.is_open.turn in
    let all : all_turns r.trail ≡ r.trail.closed ++ turn ∷ [] = ap (λ (o : Option Turn). r.trail.closed ++ option_list o) opened.is_open.now
    in
    let count = opened.share_is.made ∙ ap (turns_of share.caller) all ∙ one_more share.caller r.trail.closed turn opened.is_open.caller_is
    in
    let called : times share.caller (calls r.payload.journal) ≡ turns_of share.caller r.trail.closed =
    ap (times share.caller) opened.calls_are ∙ times_callers share.caller r.trail.closed in
    let here : made ≡ times share.caller (calls r.payload.journal) = omega (arith, count, called, more) in record {
      section = at.section;
      place = ap (λ (l : List (List ℕ)). slice_get l share.caller) (sym (sections_told t r is)) ∙ at.is_section;
      next = ap (λ (n : ℕ). slice_get (commands_of at.section) n) (sym here) ∙ at.is_command;
    }
