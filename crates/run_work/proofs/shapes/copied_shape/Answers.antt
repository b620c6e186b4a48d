use Rattle.std.proofs.Common.{◌≡◌, ◌≤◌, ◌<◌, ℕ, List, [], ◌∷◌, ◌++◌, length, take, get_or, ap, sym, ◌∙◌, subst}
use Rattle.std.proofs.lemmas.List.{take_all, take_more}
use Rattle.keep_local.specs.declared.shape.Shape.{Shape}
use Rattle.run_work.proofs.shapes.copied_shape.Goals as goal

-- the shape of these paths and keeps
abbrev made_of : List (List ℕ) → List ℕ → Shape
made_of paths keeps = record { paths = paths; keeps = keeps }

pub loop-path-preserved : goal.loop-path-preserved
loop-path-preserved c =
    let i = c.loop-path.path-index in
    let all = c.args.shape.now.paths in
    let items = c.as_slice-path-items.ensures in
    let path = c.from_vec.ensures ∙ c.in_ok-from_slice.ensures.items ∙ c.as_slice-in-loop-path.ensures in
    let here = ap (λ l. get_or l i c.path-item.result) items in
    c.in_ok-push.ensures.items ∙ ap (λ l. l ++ c.from_vec.result ∷ []) c.loop-path.invariant
    ∙ ap (λ p. take i all ++ p ∷ []) (path ∙ c.path-item.is ∙ here)
    ∙ sym (take_more all i c.path-item.result (subst (λ l. i < length l) items c.loop-path-test.true))

pub returns : goal.returns
returns c =
    let items = c.as_slice-path-items.ensures in
    let paths = c.from_vec-2.ensures ∙ c.loop-path.invariant ∙ take_all c.loop-path.path-index c.args.shape.now.paths
    (subst (λ l. length l ≤ c.loop-path.path-index) items c.loop-path-test.false) in
    let keeps = c.from_vec-3.ensures ∙ c.in_ok-from_slice-2.ensures.items ∙ c.as_slice-2.ensures in
    ap (λ l. made_of l c.from_vec-3.result) paths ∙ ap (made_of c.args.shape.now.paths) keeps
