use Rattle.std.proofs.Common.{◌<◌, Err, map, inl, inr, sym, ap, ◌∙◌, subst}
use Rattle.std.specs.Prelude.{All}
use Rattle.synth_text.specs.Rules.{pu_count}
use Rattle.run_texts.specs.declared.section.Section.{Section}
use Rattle.run_texts.specs.Views.{section_view}
use Rattle.clof_answers.proofs.Places.{input_pus}
use Rattle.clof_answers.proofs.SectionRuns.{status_only, sections_not, only_memory}
use Rattle.clof_tool.proofs.running.run_text.Goals as goal

pub returns-in-Ok-run_under-clause-refused : goal.returns-in-Ok-run_under-clause-refused
returns-in-Ok-run_under-clause-refused g c status refuses =
    absurd (sections_not c.args.tree.now c.args.input.now (map section_view c.in-Ok.sections.items) status c.in-Ok.ensures.sections refuses)

pub returns-clause-refused : goal.returns-clause-refused
returns-clause-refused g c status refuses =
    elim (status_only c.args.tree.now c.args.input.now c.in-Err.fault status c.in-Err.ensures.refused refuses) [
      | inl is ↦ inl (ap Err (c.section_status.ensures.status ∙ is))
      | inr memory ↦ inr (ap Err (c.section_status.ensures.status ∙ memory))
    ]

pub returns-clause-complete : goal.returns-clause-complete
returns-clause-complete g c none =
    inr (ap Err (c.section_status.ensures.status
    ∙ only_memory c.args.tree.now c.args.input.now c.in-Err.fault c.in-Err.ensures.refused none))

pub run_under-requires-clause-pus : goal.run_under-requires-clause-pus
run_under-requires-clause-pus g c κs within =
    let described = c.args.tree.now in
    subst (All (λ (section : Section). section.pu < pu_count described)) (sym c.deref.ensures.value)
    (input_pus described c.depths-depths.ensures.built.sound c.args.input.now c.in-Ok.sections.items c.in-Ok.ensures.sections)
