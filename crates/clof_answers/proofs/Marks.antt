-- A printed text with receipts tells one list of holds, as the text of the run in front of them does.
use Rattle.std.proofs.Common.{◌≡◌, ℕ, ◌^◌, ◌<◌, ◌≤◌, List, [], ◌∷◌, ◌++◌, length, map, take, refl, sym, ap, ◌∙◌, append_assoc, arith}
use Rattle.std.specs.List.{enumerate_from, flat_map}
use Rattle.std.proofs.lemmas.List.{append-nil}
use Rattle.std.proofs.Math.Seq.{take-append_seam}
use Rattle.keep_local.specs.declared.shape.Shape.{Shape}
use Rattle.keep_local.specs.Shapes.{top_of}
use Rattle.kv_history.specs.Answer.{store_of}
use Rattle.run_texts.specs.Callers.{Placed}
use Rattle.run_texts.specs.Text.{Hold, caller_line, caller_lines, run_text}
use Rattle.run_texts.proofs.Printed.{can_be_held}
use Rattle.run_check.specs.Lines.{lines, turn_count}
use Rattle.run_check.specs.Made.{MakeLines}
use Rattle.run_check.proofs.Comings.{all_told, made_many}
use Rattle.run_check.proofs.Lined.{caller_is_line, first_line}
use Rattle.run_check.proofs.RunLines.{all_make, front, made_told_turns, text_behind}
use Rattle.fresh_runner.specs.Receipts.{IsMarkedRun, receipts_lines}

-- no line behind those of the turns is told to be one of a turn
none_told : (sections : List Placed) (callers : List ℕ)
    → turn_count (lines (caller_lines sections ++ receipts_lines sections callers)) ≡ 0
unfolding caller_line
none_told [] callers = refl
none_told (section ∷ sections) callers =
    let rest = flat_map (λ (at : ℕ × Placed). caller_line at.0 at.1) (enumerate_from 1 sections) in
    let behind = receipts_lines (section ∷ sections) callers in
    ap turn_count
    (ap lines (append_assoc (caller_line 0 section) rest behind)
    ∙ first_line (caller_line 0 section) (rest ++ behind) (caller_is_line 0 section))

module _ (sections : List Placed) (shape : Shape) (printed : List ℕ) where
  -- the lines of a text with receipts are those of its holds, and others that are told to be no turns
  record MarkedLines (holds : List Hold) : Type 0 where
    made : List (List ℕ)
    make : MakeLines sections shape [] holds made
    rest : List (List ℕ)
    none : turn_count rest ≡ 0
    lines_are : lines printed ≡ made ++ rest

  marked_lines : length sections < 2 ^ 32 → top_of shape ≤ 32 → (marked : IsMarkedRun sections shape printed) → MarkedLines marked.run.holds
  unfolding run_text
  marked_lines few low marked =
      let run = marked.run in
      let can = can_be_held sections shape marked.out (omega (arith, few)) low run in
      let all = all_make sections shape [] run.holds [] can.commands refl can.are run.lawful in
      let text = text_behind sections shape 0 [] (store_of []) run.holds can.commands in
      let text_is : marked.out ≡ text ++ caller_lines sections = run.printed_is ∙ rw can.are refl in
      let behind = receipts_lines sections (map (λ (hold : Hold). hold.caller) run.holds) in
      record {
        made = all.made;
        make = all.make;
        rest = lines (caller_lines sections ++ behind);
        none = none_told sections (map (λ (hold : Hold). hold.caller) run.holds);
        lines_are =
            ap lines (marked.printed_is ∙ ap (λ (t : List ℕ). t ++ behind) text_is ∙ append_assoc text (caller_lines sections) behind)
            ∙ all.lines_are (caller_lines sections ++ behind);
      }

  -- as many lines are told to be turns as there are holds
  many_told : (holds : List Hold) (its : MarkedLines holds) → turn_count (lines printed) ≡ length its.made
  many_told holds its =
      ap turn_count its.lines_are
      ∙ all_told its.made its.rest (made_told_turns sections shape [] holds its.made its.make)
      ∙ (omega (arith, its.none))

  -- so the first lines are those of the holds
  first_lines : (holds : List Hold) (its : MarkedLines holds) → turn_count (lines printed) ≡ length its.made
      → take (turn_count (lines printed)) (lines printed) ≡ its.made
  first_lines holds its many =
      ap (λ (n : ℕ). take n (lines printed)) many
      ∙ ap (take (length its.made)) its.lines_are
      ∙ take-append_seam its.made its.rest

  pub marked_once : length sections < 2 ^ 32 → top_of shape ≤ 32 → (one other : IsMarkedRun sections shape printed)
      → one.run.holds ≡ other.run.holds
  marked_once few low one other =
      let first = marked_lines few low one in
      let second = marked_lines few low other in
      let same : first.made ≡ second.made =
      sym (first_lines one.run.holds first (many_told one.run.holds first))
      ∙ first_lines other.run.holds second (many_told other.run.holds second) in
      let f = front sections shape few low [] one.run.holds other.run.holds first.made second.made [] first.make second.make
      (same ∙ sym (append-nil second.made)) in
      f.holds_are
      ∙ ap (λ (t : List Hold). other.run.holds ++ t) (no_holds f.tail (sym (made_many sections shape other.run.holds f.tail [] f.make)))
      ∙ append-nil other.run.holds
    where
      no_holds : (holds : List Hold) → length holds ≡ 0 → holds ≡ []
      no_holds [] none = refl
      no_holds (hold ∷ holds) none = absurd (omega (arith, none))
