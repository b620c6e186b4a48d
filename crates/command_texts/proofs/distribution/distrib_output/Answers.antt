use Rattle.std.proofs.Common.{Err, inl, inr, ap, sym, ◌≡◌, ◌∙◌}
use Rattle.command_words.specs.Plain.{plain_distribution}
use Rattle.command_texts.specs.DistribText.{answer_on}
use Rattle.command_texts.proofs.OnTopologies.{refused_early, refused_on}
use Rattle.command_texts.proofs.distribution.distrib_output.Goals as goal

pub returns-clause-refused : goal.returns-clause-refused
returns-clause-refused c status refuses =
    refused_early c.args.asked.now.description.now (λ described. answer_on described (plain_distribution c.args.asked.now)) c.in-Err.status
    status c.in-Err.ensures.refused c.in-Err.ensures.complete refuses

pub returns-in-Ok-answer_on-clause-refused : goal.returns-in-Ok-answer_on-clause-refused
returns-in-Ok-answer_on-clause-refused c status refuses =
    let on = refused_on _ c.args.asked.now.description.now (λ described. answer_on described (plain_distribution c.args.asked.now)) _ status
    c.in-Ok.ensures.only c.in-Ok.ensures.refused refuses in
    let also = c.in-Ok-answer_on.ensures.ok in
    absurd cc

pub returns-in-Ok-clause-refused : goal.returns-in-Ok-clause-refused
returns-in-Ok-clause-refused c status refuses =
    let on = refused_on _ c.args.asked.now.description.now (λ described. answer_on described (plain_distribution c.args.asked.now)) _ status
    c.in-Ok.ensures.only c.in-Ok.ensures.refused refuses in
    elim c.in-Err-answer_on.ensures.err [
      | inl is ↦ let same : c.in-Err-answer_on.status ≡ status = cc in inl (ap Err same)
      | inr memory ↦ inr (ap Err memory)
    ]
