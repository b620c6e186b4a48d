use Rattle.std.proofs.Common.{ℕ, ◌<◌, sym, ◌∙◌, subst}
use Rattle.std.specs.Prelude.{All}
use Rattle.std.proofs.lemmas.List.Elements.{All-map}
use Rattle.synth_text.specs.Rules.{pu_count}
use Rattle.run_texts.specs.declared.section.Section.{Section}
use Rattle.clof_answers.proofs.sections.shape_for.Goals as goal

pub shape-requires-clause-pus : goal.shape-requires-clause-pus
shape-requires-clause-pus c =
    subst (All (λ (pu : ℕ). pu < pu_count c.args.tree.now)) (sym (c.deref.ensures.value ∙ c.in_ok-pus.ensures))
    (All-map (λ (pu : ℕ). pu < pu_count c.args.tree.now) (λ (section : Section). section.pu) c.args.sections.now c.requires.pus)
