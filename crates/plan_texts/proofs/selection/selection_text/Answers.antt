use Rattle.std.proofs.Common.{◌∙◌, Err, inl, inr, sym, ap}
use Rattle.lock_select.proofs.TraceReadings.{refusal_once, not_both}
use Rattle.plan_texts.specs.SelectText.{select_status}
use Rattle.plan_texts.proofs.selection.selection_text.Goals as goal

pub returns-in-Err-clause-refused : goal.returns-in-Err-clause-refused
returns-in-Err-clause-refused c status refuses =
    elim c.in-Err.ensures.refused [
      | inl is ↦ inl (ap Err (c.select_status.ensures.status
          ∙ ap select_status (refusal_once c.args.tree.now c.args.bytes.now c.in-Err.fault refuses.fault is refuses.refused)
          ∙ sym refuses.status_is))
      | inr memory ↦ inr (ap Err (c.select_status.ensures.status ∙ ap select_status memory))
    ]

pub returns-in-Err-clause-complete : goal.returns-in-Err-clause-complete
returns-in-Err-clause-complete c trace is =
    elim c.in-Err.ensures.refused [
      | inl refused ↦ absurd (not_both c.args.tree.now c.args.bytes.now trace c.in-Err.fault is refused)
      | inr memory ↦ inr (ap Err (c.select_status.ensures.status ∙ ap select_status memory))
    ]

pub returns-in-Ok-choice_text-clause-refused : goal.returns-in-Ok-choice_text-clause-refused
returns-in-Ok-choice_text-clause-refused c status refuses =
    absurd (not_both c.args.tree.now c.args.bytes.now c.in-Ok.trace.items refuses.fault c.in-Ok.ensures.trace refuses.refused)
