use Rattle.std.proofs.Common.{◌≡◌, ◌⊎◌, ℕ, List, Option, Err, inl, inr, refl, ap, subst}
use Rattle.std.proofs.lemmas.Result.{IfOk-weaker, IfErr-weaker, on_ok_weaker}
use Rattle.synth_text.specs.declared.description.Description.{Description}
use Rattle.command_words.specs.Asked.{Check, Checking, as_run}
use Rattle.command_words.specs.Plain.{plain_checking}
use Rattle.command_texts.specs.declared.status.Status.{Status}
use Rattle.command_texts.specs.declared.status.Status.TheVariants as statuses
use Rattle.command_texts.specs.Ends.{IsRefusal, EndsEarly}
use Rattle.command_texts.specs.TopoText.{DescribesBuilt}
use Rattle.command_texts.proofs.OnTopologies.{early_silent, err_again, not_refused}
use Rattle.plan_texts.specs.RunPlan.{RefusesPlan}
use Rattle.clof_answers.specs.Checking.{RefusesChecked}
use Rattle.clof_answers.specs.Outcome.{FoundUnchecked, HasCause}
use Rattle.clof_answers.proofs.Stops.{memory_again}
use Rattle.clof_answers.proofs.checking.check_on.Goals as goal

-- the cause of a refusal on what is described
cause_on : (asked : Checking) (described : Description) (left : Option (List ℕ)) (given given_now : ℕ) (status : Status)
    → DescribesBuilt asked.description described
    → RefusesPlan described (as_run asked) status ⊎ FoundUnchecked asked left given given_now status described
    → HasCause (Check asked) left given given_now status
cause_on asked described left given given_now status built (inl refuses) =
    inl (inr (record { described = described; built = built; holds = refuses }))
cause_on asked described left given given_now status built (inr found) =
    inr (record { described = described; built = built; holds = found })

pub returns-in-Ok-clause-answered : goal.returns-in-Ok-clause-answered
returns-in-Ok-clause-answered g c =
    let asked = plain_checking c.args.asked in
    let found = c.check_in.ensures in
    let built = c.in-Ok.ensures in
    record {
      answer = IfOk-weaker c.check_in.result _ _ (λ printed is.
          (is.0, is.1, (is.2, record { described = c.in-Ok.tree; built = built.ok; holds = is.3 }))) found.answer;
      at_end = on_ok_weaker c.check_in.result (λ drained _. drained) found.at_end;
      cause = IfErr-weaker c.check_in.result _ _ (λ status is refusal.
          cause_on asked c.in-Ok.tree _ _ _ status built.ok (is refusal)) found.cause;
      silent = found.silent;
      not_usage = found.not_usage;
      read_fault = λ is. (tt, found.read_fault is);
      read_in_part = found.read_in_part;
      read_calm = found.read_calm;
      words_refused = λ status refuses. elim refuses [
        | inl topo ↦ absurd (not_refused _ status (built.refused status topo))
        | inr on ↦ found.plan_refused status
            (subst (λ described. RefusesPlan described (as_run asked) status) (built.only on.described on.built.describes) on.holds)
      ];
      input_refused = λ input status left refuses calm. found.input_refused input status left
          (subst (RefusesChecked asked input status) (built.only refuses.described refuses.built.describes) refuses.holds) calm;
    }

pub returns-in-Ok-clause-words_unread : goal.returns-in-Ok-clause-words_unread
returns-in-Ok-clause-words_unread g c status refuses = elim refuses [
  | inl topo ↦ absurd (not_refused _ status (c.in-Ok.ensures.refused status topo))
  | inr on ↦ c.check_in.ensures.plan_unread status
      (subst (λ described. RefusesPlan described (as_run (plain_checking c.args.asked)) status)
      (c.in-Ok.ensures.only on.described on.built.describes) on.holds)
]

pub returns-in-Err-clause-answered : goal.returns-in-Err-clause-answered
returns-in-Err-clause-answered g c =
    let status = c.in-Err.status in
    let early = c.in-Err.ensures.early in
    record {
      answer = tt;
      at_end = tt;
      cause = λ refusal. elim c.in-Err.ensures.err [
        | inl refuses ↦ inl (inl refuses)
        | inr memory ↦ absurd (subst IsRefusal memory refusal)
      ];
      silent = λ written. early_silent status early written;
      not_usage = λ is. let same : status ≡ statuses.Usage = cc in subst EndsEarly same early;
      read_fault = λ is. let same : status ≡ statuses.ReadFault = cc in absurd (subst EndsEarly same early);
      read_in_part = λ is. let same : status ≡ statuses.ReadFault = cc in absurd (subst EndsEarly same early);
      read_calm = λ other. refl;
      words_refused = λ found refuses. elim refuses [
        | inl topo ↦ err_again status found (c.in-Err.ensures.refused found topo)
        | inr on ↦ inr (memory_again status (c.in-Err.ensures.complete on.described on.built))
      ];
      input_refused = λ input found left refuses calm.
          inr (memory_again status (c.in-Err.ensures.complete refuses.described refuses.built));
    }

pub returns-in-Ok-clause-complete : goal.returns-in-Ok-clause-complete
returns-in-Ok-clause-complete g c words accepted calm =
    let input = accepted tt in
    let built = c.in-Ok.ensures.ok in
    c.check_in.ensures.complete input.input input.is_left
    (λ status refuses. words status (inr (record { described = c.in-Ok.tree; built = built; holds = refuses })))
    (λ status refuses. input.unrefused status (record { described = c.in-Ok.tree; built = built; holds = refuses }))
    (λ rose. calm tt rose)

pub returns-in-Err-clause-complete : goal.returns-in-Err-clause-complete
returns-in-Err-clause-complete g c words accepted calm = elim c.in-Err.ensures.err [
  | inl refuses ↦ absurd (words c.in-Err.status (inl refuses))
  | inr memory ↦ inr (ap Err memory)
]
