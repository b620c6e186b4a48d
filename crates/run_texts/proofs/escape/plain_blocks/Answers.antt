use Rattle.std.proofs.Common.{◌≡◌, ◌++◌, ℕ, List, sym, ap, ap₂, ◌∙◌, append_assoc, rules}
use Rattle.std.proofs.lemmas.List.{take-append-drop}
use Rattle.std.proofs.lemmas.Grind.{flat_map-append}
use Rattle.run_texts.specs.Text.{escaped, escaped_byte}
use Rattle.run_texts.proofs.escape.plain_blocks.Goals as goal

pub loop-block-preserved : goal.loop-block-preserved
loop-block-preserved c =
    let so_far = c.loop-block.invariant in
    let front = so_far.0 in
    let rest = c.loop-block.rest.now in
    let block = c.in-Some.block.now in
    let behind = c.in-Some.behind.now in
    let cases = c.in-Some.ensures.cases in
    let parts : block ++ behind ≡ rest = ap₂ ◌++◌ cases.1 cases.2 ∙ take-append-drop c.args.size rest in
    let text_is : c.args.text.now ≡ (front ++ block) ++ behind =
    so_far.1 ∙ ap (λ (t : List ℕ). front ++ t) (sym parts) ∙ sym (append_assoc front block behind) in
    let block_plain : escaped block ≡ block = c.are_plain.ensures (search rules) in
    let plain : escaped (front ++ block) ≡ front ++ block =
    flat_map-append escaped_byte front block ∙ ap (λ (t : List ℕ). t ++ escaped block) so_far.2
    ∙ ap (λ (t : List ℕ). front ++ t) block_plain in
    (front ++ block, text_is, plain)
