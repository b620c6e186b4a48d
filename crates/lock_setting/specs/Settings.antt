-- What texts tell of a composed lock, and why they are refused.
use Rattle.std.specs.Prelude.{◌≡◌, ◌⊎◌, ℕ, ◌<◌, ◌≤◌, ◌^◌, List, [], ◌∷◌, length, All, Option, Some, None, slice_index}
use Rattle.synth_text.specs.declared.description.Description.{Description}
use Rattle.synth_text.specs.Descriptions.{Describes}
use Rattle.synth_text.specs.Faults.{SynthRefused}
use Rattle.synth_text.specs.Rules.{pu_count}
use Rattle.topo_tree.specs.Building.{build_fault}
use Rattle.keep_local.specs.declared.shape.Shape.{Shape}
use Rattle.lock_plan.specs.Plans.{IsPlan, PlanRefused}
use Rattle.lock_plan.specs.Shapes.{IsShapeOf}
use Rattle.lock_plan.specs.declared.plan.Plan.{Plan}
use Rattle.lock_setting.specs.declared.fault.SettingFault.{SettingFault}
use Rattle.lock_setting.specs.declared.fault.SettingFault.TheVariants.{TooLong, Description as NoDescription, Numbers, Plan as NoPlan, NoPu}
use Rattle.lock_setting.specs.declared.fault.SettingFault.TheVariants.{OutOfMemory}

-- the texts, and the PUs of the callers
pub record Texts : Type 0 where
  pub description : List ℕ
  pub levels : List ℕ
  pub locks : List ℕ
  pub keeps : List ℕ
  pub pus : List ℕ

abbrev pub of : List ℕ → List ℕ → List ℕ → List ℕ → List ℕ → Texts
of description levels locks keeps pus = record {
  description = description;
  levels = levels;
  locks = locks;
  keeps = keeps;
  pus = pus;
}

-- where no locks are named, a plan has the kinds that it has by itself
abbrev pub locks_given : List ℕ → Option (List ℕ)
locks_given [] = None
locks_given (byte ∷ more) = Some (byte ∷ more)

-- the machine that a text describes, whose physical numbers break no rule
abbrev pub IsMachine : List ℕ → Description → Type 0
IsMachine text machine = Describes text machine × (build_fault machine ≡ None)

-- the plan and the shape are those that the texts tell
pub record IsSettingOf (texts : Texts) (plan : Plan) (shape : Shape) : Type 0 where
  pub machine : Description
  pub machine_is : IsMachine texts.description machine
  pub plan_is : IsPlan machine texts.levels (locks_given texts.locks) texts.keeps plan
  pub stand : All (λ pu. pu < pu_count machine) texts.pus
  pub shape_is : IsShapeOf machine plan texts.pus shape

-- the first of these numbers that is not below a count is at this place
pub record IsStray (count : ℕ) (numbers : List ℕ) (place : ℕ) : Type 0 where
  pub within : place < length numbers
  pub beyond : count ≤ slice_index numbers place
  pub first : (k : ℕ) → k < place → slice_index numbers k < count

-- ---- why texts are refused; want of memory needs no cause

abbrev pub RefusesMachine : List ℕ → SettingFault → Type 0
RefusesMachine text TooLong = ⊥
RefusesMachine text (NoDescription fault) = SynthRefused text fault
RefusesMachine text (Numbers fault) = (machine : Description) × Describes text machine × (build_fault machine ≡ Some fault)
RefusesMachine text (NoPlan fault) = ⊥
RefusesMachine text (NoPu place) = ⊥
RefusesMachine text OutOfMemory = Unit {0}

abbrev pub RefusesPlan : Description → List ℕ → List ℕ → List ℕ → SettingFault → Type 0
RefusesPlan machine levels locks keeps TooLong = ⊥
RefusesPlan machine levels locks keeps (NoDescription fault) = ⊥
RefusesPlan machine levels locks keeps (Numbers fault) = ⊥
RefusesPlan machine levels locks keeps (NoPlan fault) = PlanRefused machine levels (locks_given locks) keeps fault
RefusesPlan machine levels locks keeps (NoPu place) = ⊥
RefusesPlan machine levels locks keeps OutOfMemory = Unit {0}

abbrev pub AreLong : Texts → Type 0
AreLong texts = (2 ^ 32 ≤ length texts.levels) ⊎ ((2 ^ 32 ≤ length texts.locks) ⊎ (2 ^ 32 ≤ length texts.keeps))

-- the first cause
abbrev pub Refuses : Texts → SettingFault → Type 0
Refuses texts TooLong = AreLong texts
Refuses texts (NoDescription fault) = SynthRefused texts.description fault
Refuses texts (Numbers fault) = (machine : Description) × Describes texts.description machine × (build_fault machine ≡ Some fault)
Refuses texts (NoPlan fault) =
    (machine : Description) × IsMachine texts.description machine
    × PlanRefused machine texts.levels (locks_given texts.locks) texts.keeps fault
Refuses texts (NoPu place) =
    (machine : Description) × IsMachine texts.description machine
    × (plan : Plan) × IsPlan machine texts.levels (locks_given texts.locks) texts.keeps plan
    × IsStray (pu_count machine) texts.pus place
Refuses texts OutOfMemory = Unit {0}
