-- The plan of the lock of a run where its texts have one, and the first rule that they break where they have none.
use Rattle.std.proofs.Common.{◌≡◌, ℕ, List, Option, Some, None, inl, inr, refl, sym, ap, subst, ◌∙◌}
use Rattle.std.specs.Borrow.{Bor}
use Rattle.byte_text.specs.Views.{text_at}
use Rattle.out_of_memory.specs.Memory.{UnlessMemory}
use Rattle.synth_text.specs.declared.description.Description.{Description}
use Rattle.run_faults.specs.declared.plan.PlanFault.{PlanFault}
use Rattle.run_faults.specs.declared.plan.PlanFault.TheVariants as faults
use Rattle.lock_plan.specs.declared.plan.Plan.{Plan}
use Rattle.lock_plan.specs.Plans.{IsPlan, PlanRefused}
use Rattle.lock_plan.proofs.Plans.{not_both}
use Rattle.command_words.specs.declared.asked.Running.{Running as Lent}
use Rattle.command_words.specs.Asked.{Running}
use Rattle.command_words.specs.Plain.{plain_running, plain_text}
use Rattle.command_texts.specs.declared.status.Status.{Status}
use Rattle.command_texts.specs.declared.status.Status.TheVariants.{OutOfMemory}
use Rattle.plan_texts.specs.RunPlan.{plan_status, PlanOf, HasPlan, RefusesPlan}

-- a lent text of the locks is the one that is asked for
same_locks : (locks : Option (Bor (List ℕ))) → text_at locks ≡ plain_text locks
same_locks None = refl
same_locks (Some text) = refl

-- the plan of lent texts is the one that is asked for
pub asked_plan : (described : Description) (lent : Lent) (plan : Plan)
    → IsPlan described lent.levels.now (text_at lent.locks) lent.keep.now plan → PlanOf described (plain_running lent) plan
asked_plan described lent plan is =
    subst (λ (locks : Option (List ℕ)). IsPlan described lent.levels.now locks lent.keep.now plan) (same_locks lent.locks) is

module _ (described : Description) (asked : Running) (fault : PlanFault) where
  -- the texts break this rule first, unless memory was refused
  abbrev pub IsFound : Type 0
  IsFound = UnlessMemory faults.OutOfMemory fault (PlanRefused described asked.levels asked.locks asked.keep fault)

  -- the status of the fault is a refusal's, or memory was refused
  pub refusal : (status : Status) → status ≡ plan_status fault → IsFound
      → UnlessMemory OutOfMemory status (RefusesPlan described asked status)
  refusal status is (inl refused) = inl (record { fault = fault; refused = refused; status_is = is })
  refusal status is (inr memory) = inr (is ∙ ap plan_status memory)

  -- the texts are refused with one status alone
  pub refused_once : (status other : Status) → status ≡ plan_status fault → IsFound → RefusesPlan described asked other
      → UnlessMemory OutOfMemory status (status ≡ other)
  refused_once status other is (inl refused) refuses =
      let also = refuses.refused in
      let same : fault ≡ refuses.fault = cc in
      inl (is ∙ ap plan_status same ∙ sym refuses.status_is)
  refused_once status other is (inr memory) refuses = inr (is ∙ ap plan_status memory)

  -- texts that have a plan are refused for want of memory alone
  pub memory_alone : (status : Status) → status ≡ plan_status fault → IsFound → HasPlan described asked → status ≡ OutOfMemory
  memory_alone status is (inl refused) has =
      let none = not_both described asked.levels asked.locks asked.keep has.plan has.is in
      absurd cc
  memory_alone status is (inr memory) has = is ∙ ap plan_status memory

-- texts that have a plan are not refused
pub planned_not_refused : (described : Description) (asked : Running) (plan : Plan) (status : Status) → PlanOf described asked plan
    → RefusesPlan described asked status → ⊥
planned_not_refused described asked plan status is refuses =
    let none = not_both described asked.levels asked.locks asked.keep plan is in
    let broken = refuses.refused in
    cc

-- the first rule that lent texts break is broken by what is asked for
pub asked_refusal : (described : Description) (lent : Lent) (fault : PlanFault)
    → UnlessMemory faults.OutOfMemory fault (PlanRefused described lent.levels.now (text_at lent.locks) lent.keep.now fault)
    → IsFound described (plain_running lent) fault
asked_refusal described lent fault found =
    subst (λ (locks : Option (List ℕ)). UnlessMemory faults.OutOfMemory fault
    (PlanRefused described lent.levels.now locks lent.keep.now fault)) (same_locks lent.locks) found
