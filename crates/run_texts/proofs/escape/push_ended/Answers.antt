use Rattle.std.proofs.Common.{◌≡◌, ℕ, List, ◌++◌, length, take, drop, true, ap, sym, subst, ◌∙◌, append_assoc}
use Rattle.std.specs.Prelude.{◌-◌, nat_eq}
use Rattle.std.specs.Cmp.Lexicographic.{pointwise}
use Rattle.run_texts.specs.Text.{escaped}
use Rattle.run_texts.proofs.Escapes.{escaped_line}
use Rattle.run_texts.proofs.Appending.{appended}
use Rattle.run_texts.proofs.escape.push_ended.Goals as goal

pub returns-in_ok-push_escaped-in-Some : goal.returns-in_ok-push_escaped-in-Some
returns-in_ok-push_escaped-in-Some c =
    let text = c.args.text.now in
    let end = c.args.end.now in
    let line_end = c.args.line_end.now in
    let line = c.in-Some.line.now in
    let before = c.args.out.now.items in
    let found = subst
    (λ (s : List ℕ). (pointwise nat_eq (drop (length text - length s) text) s ≡ true) × (line ≡ take (length text - length s) text))
    c.as_slice.ensures (c.in-Some.ensures.cases.0, c.in-Some.ensures.cases.1) in
    let whole = escaped_line text line end found.0 found.1 in
    appended c.extend_from_slice.result _ c.push_escaped.new.out.items line_end _ c.extend_from_slice.ensures.items
    (ap (λ (f : List ℕ). f ++ line_end) c.in_ok-push_escaped-in-Some.ensures
    ∙ append_assoc before (escaped line) line_end
    ∙ ap (λ (rest : List ℕ). before ++ (escaped line ++ rest)) c.requires
    ∙ ap (λ (rest : List ℕ). before ++ rest) (sym whole))
