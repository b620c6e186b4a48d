use Rattle.std.proofs.Common.{Err, inl, inr, ap, sym, ◌∙◌}
use Rattle.command_texts.specs.TopoText.{synth_status, build_status}
use Rattle.command_texts.proofs.Topologies.{read_refused, read_built, build_refused, build_built, built_not_refused, only_described}
use Rattle.command_texts.proofs.topology.tree.Goals as goal

pub returns-in-Err-clause-err : goal.returns-in-Err-clause-err
returns-in-Err-clause-err c =
    elim c.in-Err.ensures.refused [
      | inl refused ↦ inl (inl (record { fault = c.in-Err.fault; refused = refused; status_is = c.synth_status.ensures.status }))
      | inr memory ↦ inr (c.synth_status.ensures.status ∙ ap synth_status memory)
    ]

pub returns-in-Err-build-clause-err : goal.returns-in-Err-build-clause-err
returns-in-Err-build-clause-err c =
    elim c.in-Err-build.ensures.refused [
      | inl refused ↦ inl (inr (record {
        described = c.in-Ok.description;
        describes = c.in-Ok.ensures.described;
        fault = c.in-Err-build.fault;
        refused = refused;
        status_is = c.build_status.ensures.status;
      }))
      | inr memory ↦ inr (c.build_status.ensures.status ∙ ap build_status memory)
    ]

pub returns-in-Err-clause-refused : goal.returns-in-Err-clause-refused
returns-in-Err-clause-refused c status refuses =
    elim (read_refused c.args.text.now c.in-Err.fault c.in-Err.ensures.every_description c.in-Err.ensures.every_refusal status refuses) [
      | inl same ↦ inl (ap Err (c.synth_status.ensures.status ∙ same))
      | inr memory ↦ inr (ap Err (c.synth_status.ensures.status ∙ memory))
    ]

pub returns-in-Err-clause-complete : goal.returns-in-Err-clause-complete
returns-in-Err-clause-complete c described built =
    inr (ap Err (c.synth_status.ensures.status
    ∙ read_built c.args.text.now described c.in-Err.fault c.in-Err.ensures.every_description built))

pub returns-in-Err-build-clause-refused : goal.returns-in-Err-build-clause-refused
returns-in-Err-build-clause-refused c status refuses =
    elim (build_refused c.args.text.now c.in-Ok.description c.in-Err-build.fault c.in-Ok.ensures.every_description
    c.in-Ok.ensures.every_refusal c.in-Err-build.ensures.refused status refuses) [
      | inl same ↦ inl (ap Err (c.build_status.ensures.status ∙ same))
      | inr memory ↦ inr (ap Err (c.build_status.ensures.status ∙ memory))
    ]

pub returns-in-Err-build-clause-complete : goal.returns-in-Err-build-clause-complete
returns-in-Err-build-clause-complete c described built =
    inr (ap Err (c.build_status.ensures.status
    ∙ build_built c.args.text.now described c.in-Ok.description c.in-Err-build.fault c.in-Ok.ensures.every_description
    c.in-Err-build.ensures.refused built))

pub returns-in-Ok-build-clause-refused : goal.returns-in-Ok-build-clause-refused
returns-in-Ok-build-clause-refused c status refuses =
    absurd (built_not_refused c.args.text.now c.in-Ok.description c.in-Ok.ensures.every_description c.in-Ok.ensures.every_refusal
    c.in-Ok-build.ensures.accepted status refuses)

pub returns-in-Ok-build-clause-only : goal.returns-in-Ok-build-clause-only
returns-in-Ok-build-clause-only c described describes =
    only_described c.args.text.now c.in-Ok.description described c.in-Ok.ensures.every_description describes
    ∙ sym c.in-Ok-build.ensures.built
