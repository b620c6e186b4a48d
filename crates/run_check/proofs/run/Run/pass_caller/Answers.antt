use Rattle.std.proofs.Common.{◌≡◌, ℕ, ◌+◌, true, false, List, ◌++◌, length, take, drop, Option, Some, None, ap, ◌∙◌, subst}
use Rattle.std.specs.Prelude.{nat_eq, MatchOption}
use Rattle.std.specs.Borrow.{Bor}
use Rattle.std.specs.Cmp.Lexicographic.{pointwise}
use Rattle.run_texts.specs.Text.{caller_line}
use Rattle.run_texts.specs.Views.{section_view}
use Rattle.run_check.proofs.Fronts.{in_front_of, not_in_front}
use Rattle.run_check.proofs.run.Run.pass_caller.Goals as goal

-- what stands behind a line, where a text begins with it
passed : (text line : List ℕ) (behind : Option (Bor (List ℕ)))
    → MatchOption behind
    (pointwise nat_eq (take (length line) text) line ≡ false)
    (λ rest. (pointwise nat_eq (take (length line) text) line ≡ true) × (rest.now ≡ drop (length line) text)
    × (length rest.now + length line ≡ length text))
    → MatchOption behind ((rest : List ℕ) → text ≡ line ++ rest → ⊥) (λ rest. text ≡ line ++ rest.now)
passed text line None other = λ rest is. not_in_front text line rest other is
passed text line (Some rest) same = in_front_of text line rest.now same.0 same.1

pub returns : goal.returns
returns c =
    let line = caller_line c.args.caller (section_view c.args.section.now) in
    let line_is : c.as_slice.result.now ≡ line =
    c.as_slice.ensures.value ∙ c.in_ok-push_caller.ensures ∙ ap (λ (front : List ℕ). front ++ line) c.clear.ensures.items in
    subst (λ (l : List ℕ). MatchOption c.strip_prefix.result
    ((rest : List ℕ) → c.args.text.now ≡ l ++ rest → ⊥)
    (λ rest. c.args.text.now ≡ l ++ rest.now))
    line_is
    (passed c.args.text.now c.as_slice.result.now c.strip_prefix.result c.strip_prefix.ensures.cases)
