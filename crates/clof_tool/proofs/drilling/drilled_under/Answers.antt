use Rattle.std.proofs.Common.{ℕ, ◌<◌, ◌^◌, List, Vec, length, sym, ap, ◌∙◌, subst}
use Rattle.std.specs.Prelude.{All}
use Rattle.std.specs.List.{sum_by}
use Rattle.std.specs.declared.alloc.Global.{Global}
use Rattle.synth_text.specs.Rules.{pu_count}
use Rattle.run_texts.specs.declared.section.Section.{Section}
use Rattle.clof_answers.proofs.Drills.{drilled_pus, many_sections, small_sections}
use Rattle.clof_tool.proofs.drilling.drilled_under.Goals as goal

pub drilled_by-requires-clause-pus : goal.drilled_by-requires-clause-pus
drilled_by-requires-clause-pus g c κs within =
    subst (All (λ (section : Section). section.pu < pu_count c.args.tree.now)) (sym c.deref-2.ensures.value)
    (drilled_pus c.args.tree.now c.in_ok-sections.sections.items c.deref.result.now c.requires.tree c.in_ok-sections.ensures.placed)

pub drilled_by-requires-clause-many : goal.drilled_by-requires-clause-many
drilled_by-requires-clause-many g c κs within =
    ap length c.deref-2.ensures.value
    ∙ many_sections c.in_ok-sections.sections.items c.deref.result.now c.in_ok-sections.ensures.bytes
    ∙ ap length c.deref.ensures.value
    ∙ c.in_ok-bytes.ensures.count

pub drilled_by-requires-clause-small : goal.drilled_by-requires-clause-small
drilled_by-requires-clause-small g c κs within =
    subst (λ (sections : List Section). sum_by (λ (section : Section). length section.bytes.now) sections < 2 ^ 32)
    (sym c.deref-2.ensures.value)
    (small_sections c.in_ok-sections.sections.items c.deref.result.now c.in_ok-sections.ensures.bytes
    (subst (λ (given : List (Vec ℕ Global)). sum_by (λ (bytes : Vec ℕ Global). length bytes.items) given < 2 ^ 32)
    (sym c.deref.ensures.value) c.in_ok-bytes.ensures.small))
