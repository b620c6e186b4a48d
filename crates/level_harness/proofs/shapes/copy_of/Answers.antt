use Rattle.std.proofs.Common.{◌≡◌, ◌≤◌, ℕ, List, length, ap, ◌∙◌, subst}
use Rattle.std.proofs.lemmas.List.{take_all}
use Rattle.keep_local.specs.declared.shape.Shape.{Shape}
use Rattle.level_harness.proofs.Values.{passed_on}
use Rattle.level_harness.proofs.shapes.copy_of.Goals as goal

-- the shape of these paths and keeps
abbrev made_of : List (List ℕ) → List ℕ → Shape
made_of paths keeps = record { paths = paths; keeps = keeps }

pub returns : goal.returns
returns c =
    let all = c.as_slice-path-items.ensures in
    let paths = c.from_vec-2.ensures ∙ c.loop-path.invariant ∙ take_all c.loop-path.path-index c.args.shape.now.paths
    (subst (λ l. length l ≤ c.loop-path.path-index) all c.loop-path-test.false) in
    let copied = passed_on (λ v. v.items ≡ c.as_slice-2.result.now) c.from_slice-2.result c.ok-2.result c.in_ok-keeps.keeps
    c.from_slice-2.ensures.items c.ok-2.ensures.value c.in_ok-keeps.was in
    let keeps = c.from_vec-3.ensures ∙ copied ∙ c.as_slice-2.ensures in
    ap (λ l. made_of l c.from_vec-3.result) paths ∙ ap (made_of c.args.shape.now.paths) keeps
