use Rattle.std.proofs.Common.{◌≡◌, ◌++◌, ◌-◌, take, drop, length, ℕ, List, sym, ap, ap₂, ◌∙◌, append_assoc, arith}
use Rattle.std.proofs.Math.Seq.{take-add}
use Rattle.std.proofs.lemmas.List.{drop-drop, take_all, length-drop}
use Rattle.run_texts.specs.Text.{escaped}
use Rattle.run_texts.proofs.escape.plain_front.Goals as goal

pub returns-clause-plain : goal.returns-clause-plain
returns-clause-plain c =
    let text = c.args.text.now in
    let wide = c.plain_blocks-wide.result in
    let narrow = c.plain_blocks.result in
    let whole : take (length text - wide) (drop wide text) ≡ drop wide text =
    take_all _ (drop wide text) (omega (arith, length-drop wide text)) in
    let behind : escaped (drop wide text) ≡ take narrow (drop wide text) ++ escaped (drop narrow (drop wide text)) =
    rw (← whole) c.plain_blocks.ensures.plain in
    c.plain_blocks-wide.ensures.plain ∙ ap (λ (t : List ℕ). take wide text ++ t) behind
    ∙ sym (append_assoc (take wide text) (take narrow (drop wide text)) (escaped (drop narrow (drop wide text))))
    ∙ ap₂ ◌++◌ (sym (take-add wide narrow text)) (ap escaped (drop-drop narrow wide text))
