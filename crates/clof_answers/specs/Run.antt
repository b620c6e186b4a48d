-- What `run` prints.
use Rattle.std.specs.Prelude.{◌≡◌, ◌<◌, ◌≤◌, ◌⊎◌, ℕ, Bool, true, false, List, length, map}
use Rattle.synth_text.specs.declared.description.Description.{Description}
use Rattle.keep_local.specs.declared.shape.Shape.{Shape}
use Rattle.lock_plan.specs.declared.plan.Plan.{Plan}
use Rattle.lock_plan.specs.Shapes.{IsShapeOf}
use Rattle.run_faults.specs.declared.fault.SectionFault.{SectionFault}
use Rattle.run_faults.specs.declared.fault.SectionFault.TheVariants as section
use Rattle.run_texts.specs.Callers.{Placed}
use Rattle.placed_runner.specs.Sections.{Sections, IsRefused}
use Rattle.run_texts.specs.Printed.{IsRun}
use Rattle.run_texts.specs.Text.{Hold}
use Rattle.run_check.specs.Pairs.{input_limit}
use Rattle.fresh_runner.specs.Receipts.{IsMarkedRun}
use Rattle.command_texts.specs.declared.status.Fault.TheVariants.{Section, Input}
use Rattle.command_texts.specs.declared.status.Status.{Status}
use Rattle.command_texts.specs.declared.status.Status.TheVariants as statuses
use Rattle.command_texts.specs.TopoText.{DescribesBuilt, TopoRefuses}
use Rattle.plan_texts.specs.RunPlan.{PlanOf, HasPlan, RefusesPlan}
use Rattle.command_words.specs.Asked.{Running}

-- the status of a fault of the sections: one of them is a limit
abbrev pub section_status : SectionFault → Status
section_status (section.BadHead at) = statuses.Malformed (Section (section.BadHead at))
section_status (section.BadPlace at) = statuses.Malformed (Section (section.BadPlace at))
section_status (section.Short at) = statuses.Malformed (Section (section.Short at))
section_status section.TooManyCallers = statuses.Limit (Section section.TooManyCallers)
section_status section.OutOfMemory = statuses.OutOfMemory

-- a text is that of a run of sections under the lock of a plan, whose callers stand on their sections' PUs: of some holds by these
-- callers, each of which gives its commands once and in order
pub record RunsUnder (described : Description) (plan : Plan) (sections : List Placed) (printed : List ℕ) : Type 0 where
  pub shape : Shape
  pub shape_is : IsShapeOf described plan (map (λ section. section.pu) sections) shape
  pub run : IsRun sections shape printed

-- so is one with receipts: behind it there is for each caller a line with the numbers of its turns
pub record MarksUnder (described : Description) (plan : Plan) (sections : List Placed) (printed : List ℕ) : Type 0 where
  pub shape : Shape
  pub shape_is : IsShapeOf described plan (map (λ section. section.pu) sections) shape
  pub marked : IsMarkedRun sections shape printed

-- what is printed of sections, by whether receipts are asked for
abbrev pub PrintsRun : Bool → Description → Plan → List Placed → List ℕ → Type 0
PrintsRun false described plan sections printed = RunsUnder described plan sections printed
PrintsRun true described plan sections printed = MarksUnder described plan sections printed

-- the holds of which it is the text
abbrev pub holds_in : (receipts : Bool) (described : Description) (plan : Plan) (sections : List Placed) (printed : List ℕ)
    → PrintsRun receipts described plan sections printed → List Hold
holds_in false described plan sections printed runs = runs.run.holds
holds_in true described plan sections printed marks = marks.marked.run.holds

-- the input is some sections on a topology, and what is printed is the text of a run of these under the lock of a plan, with receipts where
-- they are asked for
pub record PrintsUnder (receipts : Bool) (described : Description) (plan : Plan) (input printed : List ℕ) : Type 0 where
  pub sections : List Placed
  pub are : Sections described input sections
  pub runs : PrintsRun receipts described plan sections printed

-- the same under the lock of the plan that is asked for
pub record PrintsSections (described : Description) (asked : Running) (input printed : List ℕ) : Type 0 where
  pub plan : Plan
  pub plan_is : PlanOf described asked plan
  pub prints : PrintsUnder asked.receipts described plan input printed

-- the input is refused as sections on a topology
pub record RefusesSections (described : Description) (input : List ℕ) (status : Status) : Type 0 where
  pub fault : SectionFault
  pub refused : IsRefused described input fault
  pub status_is : status ≡ section_status fault

-- on a topology an input is refused: it is too long, or its sections break a rule
abbrev pub Refuses : Description → List ℕ → Status → Type 0
Refuses described input status =
    ((input_limit < length input) × (status ≡ statuses.Limit Input))
    ⊎ ((length input ≤ input_limit) × RefusesSections described input status)

-- a text describes a topology of which this holds
pub record OnDescribed (text : List ℕ) (P : Description → Type 0) : Type 0 where
  pub described : Description
  pub built : DescribesBuilt text described
  pub holds : P described

-- the words are refused: the description, or on what it describes the plan
abbrev pub RunRefuses : Running → Status → Type 0
RunRefuses asked status =
    TopoRefuses asked.description status ⊎ OnDescribed asked.description (λ described. RefusesPlan described asked status)

-- there is a plan, and an input is refused
abbrev pub RefusesPlanned : Running → List ℕ → Status → Description → Type 0
RefusesPlanned asked input status described = HasPlan described asked × Refuses described input status
