-- What `check` prints, and how it refuses its words and what it reads.
use Rattle.std.specs.Prelude.{◌≡◌, ◌≤◌, ◌<◌, ◌⊎◌, ℕ, false, List, [], ◌∷◌, ◌++◌, codes, decimal, length, map}
use Rattle.synth_text.specs.declared.description.Description.{Description}
use Rattle.keep_local.specs.declared.shape.Shape.{Shape}
use Rattle.lock_plan.specs.declared.plan.Plan.{Plan}
use Rattle.lock_plan.specs.Shapes.{IsShapeOf}
use Rattle.run_texts.specs.Callers.{Placed}
use Rattle.placed_runner.specs.Sections.{Sections}
use Rattle.run_faults.specs.declared.fault.CheckFault.{CheckFault}
use Rattle.run_check.specs.declared.verdict.Verdict.{Verdict}
use Rattle.run_check.specs.declared.verdict.Verdict.TheVariants.{Yes, No}
use Rattle.run_check.specs.Broken.{IsFirstBroken}
use Rattle.run_check.specs.Pairs.{ArePair, IsRefused}
use Rattle.command_words.specs.Asked.{Checking, as_run}
use Rattle.command_texts.specs.declared.status.Fault.TheVariants.{Check, Input}
use Rattle.command_texts.specs.declared.status.Status.{Status}
use Rattle.command_texts.specs.declared.status.Status.TheVariants as statuses
use Rattle.plan_texts.specs.RunPlan.{HasPlan, PlanOf, RefusesPlan}
use Rattle.command_texts.specs.TopoText.{TopoRefuses}
use Rattle.clof_answers.specs.Run.{OnDescribed, PrintsUnder, RefusesSections, RunsUnder}

-- the greatest length of an input, its head and the printed text behind it
abbrev pub pair_limit : ℕ
pair_limit = 67108864

-- ---- the answer

-- the line with this number is the first of a printed text that can't be one of a run of sections under the lock of a plan, whose callers
-- stand on their sections' PUs
pub record BreaksRun (described : Description) (plan : Plan) (sections : List Placed) (printed : List ℕ) (number : ℕ) : Type 0 where
  pub shape : Shape
  pub shape_is : IsShapeOf described plan (map (λ section. section.pu) sections) shape
  pub broken : IsFirstBroken sections shape printed number

-- the input is some sections on a topology, and the line with this number is the first one that can't be one of a run of these
pub record BreaksUnder (described : Description) (plan : Plan) (input printed : List ℕ) (number : ℕ) : Type 0 where
  pub sections : List Placed
  pub are : Sections described input sections
  pub breaks : BreaksRun described plan sections printed number

-- what is said of a printed text for sections: it is that of a run of these, or it has a first broken line
abbrev pub JudgesRun : Description → Plan → List Placed → List ℕ → Verdict → Type 0
JudgesRun described plan sections printed Yes = RunsUnder described plan sections printed
JudgesRun described plan sections printed (No line) = BreaksRun described plan sections printed line

-- the same for an input: it is one that a run of the input prints, or it has a first broken line
abbrev pub Judges : Description → Plan → List ℕ → List ℕ → Verdict → Type 0
Judges described plan input printed Yes = PrintsUnder false described plan input printed
Judges described plan input printed (No line) = BreaksUnder described plan input printed line

-- how that is told
abbrev pub verdict_text : Verdict → List ℕ
verdict_text Yes = codes "yes" ++ 10 ∷ []
verdict_text (No line) = codes "no " ++ decimal line ++ 10 ∷ []

-- the text tells what is said of the printed text in some bytes, behind its input
pub record TellsVerdict (described : Description) (plan : Plan) (bytes text : List ℕ) : Type 0 where
  pub input : List ℕ
  pub printed : List ℕ
  pub pair : ArePair bytes input printed
  pub verdict : Verdict
  pub judges : Judges described plan input printed verdict
  pub text_is : text ≡ verdict_text verdict

-- the same under the lock of the plan that is asked for
pub record TellsChecked (described : Description) (asked : Checking) (bytes text : List ℕ) : Type 0 where
  pub plan : Plan
  pub plan_is : PlanOf described (as_run asked) plan
  pub tells : TellsVerdict described plan bytes text

-- ---- refusals

-- bytes are refused as an input with a printed text
pub record RefusesForm (bytes : List ℕ) (status : Status) : Type 0 where
  pub fault : CheckFault
  pub refused : IsRefused bytes fault
  pub status_is : status ≡ statuses.Malformed (Check fault)

-- bytes are an input with a printed text, and the input is refused as sections on a topology
pub record RefusesParts (described : Description) (bytes : List ℕ) (status : Status) : Type 0 where
  pub input : List ℕ
  pub printed : List ℕ
  pub pair : ArePair bytes input printed
  pub refused : RefusesSections described input status

abbrev pub RefusesPair : Description → List ℕ → Status → Type 0
RefusesPair described bytes status = RefusesForm bytes status ⊎ RefusesParts described bytes status

-- on a topology bytes are refused: they are too many, or no sections with a printed text
abbrev pub RefusesWhole : Description → List ℕ → Status → Type 0
RefusesWhole described bytes status =
    ((pair_limit < length bytes) × (status ≡ statuses.Limit Input))
    ⊎ ((length bytes ≤ pair_limit) × RefusesPair described bytes status)

-- the words are refused: the description, or on what it describes the plan
abbrev pub CheckRefuses : Checking → Status → Type 0
CheckRefuses asked status =
    TopoRefuses asked.description status ⊎ OnDescribed asked.description (λ described. RefusesPlan described (as_run asked) status)

-- there is a plan, and bytes are refused
abbrev pub RefusesChecked : Checking → List ℕ → Status → Description → Type 0
RefusesChecked asked bytes status described = HasPlan described (as_run asked) × RefusesWhole described bytes status
