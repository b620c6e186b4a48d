use Rattle.std.proofs.Common.{◌≡◌, ℕ, List, Vec, ◌++◌, ◌∷◌, [], map, ap, sym, ◌∙◌, arith}
use Rattle.std.specs.declared.alloc.Global.{Global}
use Rattle.std.proofs.lemmas.List.{map-append}
use Rattle.std.proofs.lemmas.List.FromFn.{map-range_with_len_more}
use Rattle.drill_text.specs.Drill.{below, drill_section}
use Rattle.drill_text.proofs.Sizes.{all_sections, sections_few}
use Rattle.drill_text.proofs.commands.sections.Goals as goal

pub loop-caller-preserved : goal.loop-caller-preserved
loop-caller-preserved c =
    let items = λ (section : Vec ℕ Global). section.items in
    let before = c.loop-caller.sections.items in
    let caller = c.loop-caller.caller in
    let section = c.in_ok-section.field-0 in
    ap (map items) c.in_ok-push.ensures.items
    ∙ map-append items before (section ∷ [])
    ∙ ap (λ (front : List (List ℕ)). front ++ section.items ∷ []) c.loop-caller.invariant
    ∙ ap (λ (last : List ℕ). map (drill_section c.args.drill) (below caller) ++ last ∷ []) c.in_ok-section.ensures
    ∙ sym (map-range_with_len_more (drill_section c.args.drill) 0 caller caller (omega arith))

pub returns-clause-sections : goal.returns-clause-sections
returns-clause-sections c =
    c.loop-caller.invariant ∙ all_sections c.args.drill c.loop-caller.caller (omega arith)

pub returns-clause-small : goal.returns-clause-small
returns-clause-small c =
    sections_few c.args.drill c.loop-caller.sections.items
    (c.loop-caller.invariant ∙ all_sections c.args.drill c.loop-caller.caller (omega arith))
