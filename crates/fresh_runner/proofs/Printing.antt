-- What is printed of a run with its receipts.
use Rattle.std.proofs.Common.{◌≡◌, ℕ, suc, ◌+◌, ◌<◌, List, [], ◌∷◌, ◌++◌, length, map, refl, ap, sym, ◌∙◌, subst, arith, Some}
use Rattle.std.specs.Prelude.{IfSome, option_map, slice_get}
use Rattle.std.specs.List.{All, enumerate_from, flat_map}
use Rattle.std.proofs.lemmas.List.{length-map}
use Rattle.std.proofs.lemmas.List.Elements.{All-cons, All-head, All-map, All-nil, All-tail}
use Rattle.std.proofs.lemmas.Option.{slice_get-map}
use Rattle.keep_local.specs.declared.shape.Shape.{Shape}
use Rattle.keep_local.specs.declared.turn.Turn.{Turn}
use Rattle.keep_local.specs.Shapes.{top_of}
use Rattle.keep_local.specs.States.{TrailState, callers_in}
use Rattle.keep_local.specs.Turns.{IsLawful, last_turn}
use Rattle.kv_history.specs.Log.{Log, EachHasSection}
use Rattle.run_texts.specs.Callers.{Placed}
use Rattle.run_texts.specs.Text.{Hold, commands_behind, run_text, text_of, turns_text}
use Rattle.run_texts.specs.Views.{section_view}
use Rattle.run_texts.specs.declared.section.Section.{Section}
use Rattle.run_texts.proofs.Printed.{count-held, hold_of, turns_are}
use Rattle.run_texts.proofs.Texts.{bytes_of}
use Rattle.threaded_runner.specs.Finished.{IsFinished}
use Rattle.fresh_runner.specs.Marked.{AreMarked}
use Rattle.fresh_runner.specs.Places.{places_of}
use Rattle.fresh_runner.specs.Receipts.{IsMarkedRun, marks_lines, receipts_line, receipts_lines}
use Rattle.fresh_runner.specs.declared.account.Marks.{Marks}

callers_held : (turns : List Turn) → map (λ (hold : Hold). hold.caller) (map hold_of turns) ≡ callers_in turns
callers_held [] = refl
callers_held (turn ∷ turns) = ap (λ rest. turn.caller ∷ rest) (callers_held turns)

text_of_run : (sections : List Placed) (shape : Shape) (turns : List Turn) → IsLawful shape turns
    → turns_text sections turns ≡ run_text sections shape (map hold_of turns)
unfolding turns_text run_text
text_of_run sections shape turns lawful =
    λ i. text_of sections (sym (turns_are shape [] turns lawful) i) (commands_behind sections [] (sym (callers_held turns) i))

each_within : (n : ℕ) (turns : List Turn) → All (λ (caller : ℕ). caller < n) (callers_in turns)
    → All (λ (hold : Hold). hold.caller < n) (map hold_of turns)
each_within n [] all = All-nil (λ (hold : Hold). hold.caller < n)
each_within n (turn ∷ turns) all =
    All-cons (λ (hold : Hold). hold.caller < n) (hold_of turn) (map hold_of turns)
    (All-head (λ (caller : ℕ). caller < n) turn.caller (callers_in turns) all)
    (each_within n turns (All-tail (λ (caller : ℕ). caller < n) turn.caller (callers_in turns) all))

-- of marks that are the places of their callers the lines are those of the callers' turns
same_lines : {A : Type 0} (n : ℕ) (callers : List ℕ) (marks : List Marks) (sections : List A) → length marks ≡ length sections
    → ((k : ℕ) (m : Marks) → slice_get marks k ≡ Some m → m.turns.items ≡ places_of (n + k) callers)
    → flat_map (λ at. receipts_line at.0 at.1) (enumerate_from n (map (λ (m : Marks). m.turns.items) marks))
    ≡ flat_map (λ at. receipts_line at.0 (places_of at.0 callers)) (enumerate_from n sections)
same_lines n callers [] [] many each = refl
same_lines n callers [] (x ∷ sections) many each = absurd (omega (arith, many))
same_lines n callers (m ∷ marks) [] many each = absurd (omega (arith, many))
same_lines n callers (m ∷ marks) (x ∷ sections) many each =
    let first : m.turns.items ≡ places_of n callers = each 0 m refl ∙ ap (λ k. places_of k callers) (omega arith) in
    λ i. receipts_line n (first i) ++ same_lines (n + 1) callers marks sections (omega (arith, many)) (λ k one at. each (suc k) one at
    ∙ ap (λ j. places_of j callers) (omega arith)) i

-- the text of a finished run, with the lines of its marks, is that of a run with the receipts of its turns
pub marked_run : (trail : TrailState) (log : Log) (sections : List Section) (marks : List Marks) (printed : List ℕ) → IsFinished trail log
    → log.sections ≡ map (λ (one : Section). one.bytes.now) sections → EachHasSection log
    → AreMarked (callers_in trail.closed) (length sections) marks
    → printed ≡ turns_text (map section_view sections) trail.closed ++ marks_lines marks
    → IsMarkedRun (map section_view sections) trail.shape printed
marked_run trail log sections marks printed left same callers marked printed_is =
    let placed = map section_view sections in
    let n = length placed in
    let size : length sections ≡ n = sym (length-map sections section_view) in
    let bytes : log.sections ≡ map (λ (one : Placed). one.bytes) placed = same ∙ bytes_of sections in
    let as_many : length log.sections ≡ n = ap length bytes ∙ length-map placed (λ (one : Placed). one.bytes) in
    let called : All (λ (caller : ℕ). caller < n) (callers_in trail.closed) =
    subst (λ (l : List ℕ). All (λ (caller : ℕ). caller < n) l) left.called
    (All-map (λ (caller : ℕ). caller < n) (λ entry. entry.caller) log.entries
    (subst (λ (k : ℕ). All (λ entry. entry.caller < k) log.entries) as_many callers)) in
    let are = turns_are trail.shape [] trail.closed left.lawful in
    let lines = same_lines 0 (callers_in trail.closed) marks placed (marked.many ∙ size) (λ k m at. marked.each k m at
    ∙ ap (λ j. places_of j (callers_in trail.closed)) (omega arith)) in
    let held = ap (receipts_lines placed) (sym (callers_held trail.closed)) in
    let text = text_of_run placed trail.shape trail.closed left.lawful in record {
      out = turns_text placed trail.closed;
      run = record {
        holds = map hold_of trail.closed;
        callers = each_within n trail.closed called;
        each_own = λ caller section place. count-held caller trail.closed ∙ left.each_made caller section.bytes
            (ap (λ (l : List (List ℕ)). slice_get l caller) bytes ∙ slice_get-map (λ (one : Placed). one.bytes) placed caller
            ∙ ap (option_map (λ (one : Placed). one.bytes)) place);
        printed_is = text;
        lawful = subst (IsLawful trail.shape) (sym are) left.lawful;
        ends = subst (λ (all : List Turn). IfSome (last_turn all) (λ t. t.left ≡ top_of trail.shape)) (sym are) left.ends;
      };
      printed_is = printed_is ∙ ap (λ l. turns_text placed trail.closed ++ l) (lines ∙ held);
    }
