use Rattle.std.proofs.Common.{Err, inl, inr, ap, subst}
use Rattle.std.proofs.lemmas.Result.{IfOk-weaker, IfErr-weaker}
use Rattle.command_texts.specs.Ends.{IsRefusal}
use Rattle.command_texts.proofs.OnTopologies.{err_again, not_refused}
use Rattle.clof_answers.proofs.Stops.{memory_again}
use Rattle.clof_answers.proofs.selecting.select_in.Goals as goal

pub returns-in-Ok-clause-answer : goal.returns-in-Ok-clause-answer
returns-in-Ok-clause-answer g c =
    let criteria = c.in-Ok.criteria in
    IfOk-weaker c.selected.result _ _ (λ printed is.
    (is.0, is.1, is.2, record { weights = criteria.weights.items; keep = criteria.keep; are = c.in-Ok.ensures.ok; prints = is.3 }))
    c.selected.ensures.answer

pub returns-in-Ok-clause-cause : goal.returns-in-Ok-clause-cause
returns-in-Ok-clause-cause g c =
    let criteria = c.in-Ok.criteria in
    IfErr-weaker c.selected.result _ _ (λ status is refusal.
    inr (record { weights = criteria.weights.items; keep = criteria.keep; are = c.in-Ok.ensures.ok }, is refusal))
    c.selected.ensures.cause

pub returns-in-Ok-clause-criteria_refused : goal.returns-in-Ok-clause-criteria_refused
returns-in-Ok-clause-criteria_refused g c status refuses = absurd (not_refused _ status (c.in-Ok.ensures.refused status refuses))

pub returns-in-Ok-clause-criteria_unread : goal.returns-in-Ok-clause-criteria_unread
returns-in-Ok-clause-criteria_unread g c status refuses = absurd (not_refused _ status (c.in-Ok.ensures.refused status refuses))

pub returns-in-Ok-clause-input_refused : goal.returns-in-Ok-clause-input_refused
returns-in-Ok-clause-input_refused g c input status left refuses calm =
    c.selected.ensures.input_refused input status left refuses.1 calm

pub returns-in-Ok-clause-complete : goal.returns-in-Ok-clause-complete
returns-in-Ok-clause-complete g c input left words none calm =
    let criteria = c.in-Ok.criteria in
    c.selected.ensures.complete input left
    (λ status refuses.
    none status (record { weights = criteria.weights.items; keep = criteria.keep; are = c.in-Ok.ensures.ok }, refuses)) calm

pub returns-in-Err-clause-cause : goal.returns-in-Err-clause-cause
returns-in-Err-clause-cause g c refusal = elim c.in-Err.ensures.err [
  | inl refuses ↦ inl refuses
  | inr memory ↦ absurd (subst IsRefusal memory refusal)
]

pub returns-in-Err-clause-criteria_refused : goal.returns-in-Err-clause-criteria_refused
returns-in-Err-clause-criteria_refused g c status refuses =
    err_again c.in-Err.status status (c.in-Err.ensures.refused status refuses)

pub returns-in-Err-clause-input_refused : goal.returns-in-Err-clause-input_refused
returns-in-Err-clause-input_refused g c input status left refuses calm =
    inr (memory_again c.in-Err.status (c.in-Err.ensures.complete refuses.0))

pub returns-in-Err-clause-complete : goal.returns-in-Err-clause-complete
returns-in-Err-clause-complete g c input left words none calm = elim c.in-Err.ensures.err [
  | inl refuses ↦ absurd (words c.in-Err.status refuses)
  | inr memory ↦ inr (ap Err memory)
]
