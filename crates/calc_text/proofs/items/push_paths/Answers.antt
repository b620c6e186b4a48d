use Rattle.std.proofs.Common.{◌≡◌, ◌++◌, ◌∷◌, [], ap, ◌∙◌, decimal}
use Rattle.std.specs.List.{join_by}
use Rattle.calc_text.specs.Texts.{path_text, step_text}
use Rattle.calc_text.proofs.Joins.{joined-step}
use Rattle.calc_text.proofs.items.push_paths.Goals as goal

pub loop-place-preserved : goal.loop-place-preserved
loop-place-preserved c =
    let now = c.args.tree.now in
    let numbering = c.args.numbering in
    let separated = c.push_separator.new.out.items in
    joined-step (path_text now numbering) c.args.separator.now c.args.paths.now c.loop-place.place _ c.args.out.now.items
    c.loop-place.out.items separated _
    c.loop-place-test.true c.loop-place.invariant c.in_ok-push_separator.ensures
    (c.in_ok-push_steps.ensures ∙ ap (λ steps. separated ++ join_by (step_text now numbering) (46 ∷ []) steps)
    (c.as_slice.ensures ∙ ap (λ path. path.steps) c.index-paths-place.is))
