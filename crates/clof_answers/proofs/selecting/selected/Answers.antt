use Rattle.std.proofs.Common.{◌≡◌, ◌<◌, ◌≤◌, Err, inl, inr, length, refl, sym, ap, subst, ◌∙◌, arith}
use Rattle.std.specs.Prelude.{IfSome}
use Rattle.command_texts.specs.declared.status.Fault.TheVariants.{Input}
use Rattle.command_texts.specs.declared.status.Status.TheVariants as statuses
use Rattle.plan_texts.specs.SelectText.{RefusesTrace}
use Rattle.run_check.specs.Pairs.{input_limit}
use Rattle.clof_answers.proofs.Stops.{complete_of}
use Rattle.clof_answers.proofs.selecting.selected.Goals as goal

pub returns-in-Ok-clause-input_refused : goal.returns-in-Ok-clause-input_refused
returns-in-Ok-clause-input_refused g c input status left refuses calm =
    let own = c.in-Ok.input.items in
    let same : own ≡ input = subst (λ l. IfSome l (λ all. own ≡ all)) left c.in-Ok.ensures.read.is_left in
    let lent : c.deref.result.now ≡ input = c.deref.ensures.value ∙ same in
    elim refuses [
      | inl long ↦ absurd (omega (arith, long.0, ap length same, c.in-Ok.ensures.within))
      | inr broken ↦ c.selection_text.ensures.refused status
          (subst (λ i. RefusesTrace c.args.tree.now i status) (sym lent) broken.1)
    ]

pub returns-in-Ok-clause-complete : goal.returns-in-Ok-clause-complete
returns-in-Ok-clause-complete g c input left none calm =
    let own = c.in-Ok.input.items in
    let same : own ≡ input = subst (λ l. IfSome l (λ all. own ≡ all)) left c.in-Ok.ensures.read.is_left in
    let lent : c.deref.result.now ≡ input = c.deref.ensures.value ∙ same in
    let within : length input ≤ input_limit = omega (arith, ap length same, c.in-Ok.ensures.within) in
    complete_of c.selection_text.result (RefusesTrace c.args.tree.now c.deref.result.now) c.selection_text.ensures.err
    (λ status refuses. none status (inr (within, subst (λ i. RefusesTrace c.args.tree.now i status) lent refuses)))

pub returns-in-Err-clause-complete : goal.returns-in-Err-clause-complete
returns-in-Err-clause-complete g c input left none calm = elim c.in-Err.ensures.refused [
  | inl fault ↦ absurd (calm (c.in-Err.ensures.read_fault (ap Err fault)))
  | inr other ↦ elim other [
    | inl long ↦ absurd (none (statuses.Limit Input)
        (inl (subst (λ l. IfSome l (λ all. input_limit < length all)) left (c.in-Err.ensures.too_long (ap Err long)).longer, refl)))
    | inr memory ↦ inr (ap Err memory)
  ]
]
