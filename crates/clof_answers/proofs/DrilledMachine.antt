-- The machine of a drill, and the plan of its lock.
use Rattle.std.proofs.Common.{◌≡◌, ◌⊎◌, ℕ, List, Some, None, Err, codes, refl, sym, ◌∙◌, subst, inl, inr, arith}
use Rattle.std.specs.Prelude.{IsOk, Option, Result}
use Rattle.out_of_memory.specs.Memory.{UnlessMemory}
use Rattle.synth_text.specs.declared.description.Description.{Description}
use Rattle.std.specs.Fmt.{digits}
use Rattle.byte_text.specs.Numerals.{number_below}
use Rattle.synth_text.specs.Kinds.{same_kind}
use Rattle.synth_text.specs.Names as names
use Rattle.synth_text.specs.Canonical.{canonical}
use Rattle.synth_text.specs.Descriptions.{Describes}
use Rattle.synth_text.specs.Sound.{IsSound}
use Rattle.synth_text.proofs.CanonicalRules.{canonical_describes}
use Rattle.topo_tree.specs.Building.{build_fault}
use Rattle.topo_tree.specs.Naming.{depths_of}
use Rattle.topo_tree.specs.Numbers.{first_fault, indexes_fault, numbers_of}
use Rattle.lock_select.specs.Texts.{keep_of}
use Rattle.run_faults.specs.declared.plan.PlanFault.{PlanFault}
use Rattle.run_faults.specs.declared.plan.PlanFault.TheVariants.{OutOfMemory}
use Rattle.lock_plan.specs.Plans.{PlanRefused, first_misplaced, kind_named, plan_fault}
use Rattle.command_texts.specs.declared.status.Status.{Status}
use Rattle.command_texts.specs.declared.status.Status.TheVariants as statuses
use Rattle.command_texts.specs.TopoText.{DescribesBuilt}
use Rattle.clof_answers.specs.Drilling.{drilled_machine}

pub machine_sound : IsSound drilled_machine
unfolding drilled_machine
machine_sound = record {
  few = omega arith;
  levels = grind arith;
  differ = grind arith;
  ends = refl;
  memory = tt;
  pus = omega arith;
  objects = omega arith;
}

machine_canonical : canonical drilled_machine ≡ codes "Package:2 L3Cache:2 Core:4 PU:2"
unfolding drilled_machine canonical digits
machine_canonical = refl

machine_described : Describes (codes "Package:2 L3Cache:2 Core:4 PU:2") drilled_machine
machine_described = subst (λ (text : List ℕ). Describes text drilled_machine) machine_canonical
    (canonical_describes drilled_machine machine_sound)

machine_numbered : build_fault drilled_machine ≡ None
unfolding drilled_machine build_fault indexes_fault first_fault numbers_of
machine_numbered = refl

pub machine_built : DescribesBuilt (codes "Package:2 L3Cache:2 Core:4 PU:2") drilled_machine
machine_built = record { describes = machine_described; builds = machine_numbered }

lock_planned : plan_fault drilled_machine (codes "l3,package,machine") (Some (codes "mcs-clh-hem")) (codes "16") ≡ None
unfolding drilled_machine names.kind_named depths_of same_kind plan_fault first_misplaced kind_named keep_of number_below
lock_planned = refl

-- so memory alone can be wanting for the machine
pub memory_alone : {T : Type 0} (made : Result T Status) (status : Status) → made ≡ Err status
    → IsOk made ⊎ (made ≡ Err statuses.OutOfMemory) → status ≡ statuses.OutOfMemory
memory_alone {T = T} made status is (inl ok) = absurd (let e : IsOk {T = T} {E = Status} (Err status) = subst IsOk is ok in cc)
memory_alone {T = T} made status is (inr memory) =
    let e : ◌≡◌ {A = Result T Status} (Err status) (Err statuses.OutOfMemory) = sym is ∙ memory in cc

-- and for the plan of its lock
no_fault : (found : Option PlanFault) (fault : PlanFault) → found ≡ None → found ≡ Some fault → fault ≡ OutOfMemory
no_fault found fault none some = absurd (let e : ◌≡◌ {A = Option PlanFault} None (Some fault) = sym none ∙ some in cc)

pub memory_for_plan : (described : Description) (fault : PlanFault) → described ≡ drilled_machine
    → UnlessMemory OutOfMemory fault
    (PlanRefused described (codes "l3,package,machine") (Some (codes "mcs-clh-hem")) (codes "16") fault)
    → fault ≡ OutOfMemory
memory_for_plan described fault same (inl refused) =
    no_fault (plan_fault described (codes "l3,package,machine") (Some (codes "mcs-clh-hem")) (codes "16")) fault
    (subst (λ (d : Description). plan_fault d (codes "l3,package,machine") (Some (codes "mcs-clh-hem")) (codes "16") ≡ None) (sym same)
    lock_planned) refused
memory_for_plan described fault same (inr memory) = memory
