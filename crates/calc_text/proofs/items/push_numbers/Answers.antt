use Rattle.std.proofs.Common.{◌≡◌, ◌++◌, ◌∷◌, [], ap, ◌∙◌, decimal}
use Rattle.calc_text.specs.Texts.{index_text}
use Rattle.calc_text.proofs.Joins.{joined-step}
use Rattle.calc_text.proofs.items.push_numbers.Goals as goal

pub loop-place-preserved : goal.loop-place-preserved
loop-place-preserved c =
    let now = c.args.tree.now in
    let numbering = c.args.numbering in
    let separated = c.push_separator.new.out.items in
    joined-step (index_text now numbering c.args.layer) c.args.separator.now c.args.indexes.now c.loop-place.place _ c.args.out.now.items
    c.loop-place.out.items separated _
    c.loop-place-test.true c.loop-place.invariant c.in_ok-push_separator.ensures
    (c.in_ok-push_decimal.ensures.ok ∙ ap (λ number. separated ++ decimal number) (c.from.ensures ∙ c.shown_number.ensures))
