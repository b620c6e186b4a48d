-- What is said of a printed text, by its sections, and why bytes are refused.
use Rattle.std.proofs.Common.{◌≡◌, ℕ, List, map, inl, inr, refl, sym, ap, ◌∙◌, subst}
use Rattle.synth_text.specs.declared.description.Description.{Description}
use Rattle.keep_local.specs.declared.shape.Shape.{Shape}
use Rattle.lock_plan.specs.declared.plan.Plan.{Plan}
use Rattle.lock_plan.specs.Shapes.{IsShapeOf}
use Rattle.run_texts.specs.declared.section.Section.{Section}
use Rattle.run_texts.specs.Callers.{Placed}
use Rattle.placed_runner.specs.Sections.{Sections}
use Rattle.run_texts.specs.Views.{section_view}
use Rattle.placed_runner.proofs.Uniqueness.{refusal_once}
use Rattle.run_faults.specs.declared.fault.CheckFault.{CheckFault}
use Rattle.run_check.specs.declared.verdict.Verdict.{Verdict}
use Rattle.run_check.specs.declared.verdict.Verdict.TheVariants.{Yes, No}
use Rattle.run_check.specs.Broken.{IsVerdict}
use Rattle.run_check.specs.Pairs.{ArePair, IsRefused}
use Rattle.command_texts.specs.declared.status.Fault.TheVariants.{Check}
use Rattle.command_texts.specs.declared.status.Status.{Status}
use Rattle.command_texts.specs.declared.status.Status.TheVariants as statuses
use Rattle.clof_answers.specs.Checking.{Judges, JudgesRun, RefusesPair}
use Rattle.clof_answers.specs.Run.{RefusesSections, section_status}
use Rattle.clof_answers.proofs.Pairs.{one_fault, one_pair, pair_not}
use Rattle.clof_answers.proofs.Runs.{pus_of, runs_under}

-- what is said of a text for sections under a plan's shape is said of it under the lock of the plan
pub judges_run : (described : Description) (plan : Plan) (sections : List Section) (shape : Shape) (printed : List ℕ) (verdict : Verdict)
    → IsShapeOf described plan (map (λ (section : Section). section.pu) sections) shape
    → IsVerdict (map section_view sections) shape printed verdict
    → JudgesRun described plan (map section_view sections) printed verdict
judges_run described plan sections shape printed Yes is run = runs_under described plan sections shape printed is run
judges_run described plan sections shape printed (No line) is broken = record {
  shape = shape;
  shape_is = subst (λ (pus : List ℕ). IsShapeOf described plan pus shape) (pus_of sections) is;
  broken = broken;
}

-- what is said for an input's sections is said for the input
pub judges : (described : Description) (plan : Plan) (input printed : List ℕ) (sections : List Placed) (verdict : Verdict)
    → Sections described input sections → JudgesRun described plan sections printed verdict
    → Judges described plan input printed verdict
judges described plan input printed sections Yes are runs = record { sections = sections; are = are; runs = runs }
judges described plan input printed sections (No line) are breaks = record { sections = sections; are = are; breaks = breaks }

-- ---- refusals

-- bytes that are refused as a pair
pub form_refuses : (described : Description) (bytes : List ℕ) (fault : CheckFault) → IsRefused bytes fault
    → RefusesPair described bytes (statuses.Malformed (Check fault))
form_refuses described bytes fault refused = inl (record { fault = fault; refused = refused; status_is = refl })

-- they have no other status
pub form_only : (described : Description) (bytes : List ℕ) (fault : CheckFault) (status : Status) → IsRefused bytes fault
    → RefusesPair described bytes status → statuses.Malformed (Check fault) ≡ status
form_only described bytes fault status refused (inl form) =
    ap (λ (f : CheckFault). statuses.Malformed (Check f)) (one_fault bytes fault form.fault refused form.refused) ∙ sym form.status_is
form_only described bytes fault status refused (inr parts) =
    absurd (pair_not bytes parts.input parts.printed fault parts.pair refused)

-- a pair is refused for its input's sections alone
pub parts_only : (described : Description) (bytes input printed : List ℕ) (status : Status) → ArePair bytes input printed
    → RefusesPair described bytes status → RefusesSections described input status
parts_only described bytes input printed status pair (inl form) = absurd (pair_not bytes input printed form.fault pair form.refused)
parts_only described bytes input printed status pair (inr parts) =
    let same = one_pair bytes parts.input parts.printed input printed parts.pair pair in
    subst (λ (i : List ℕ). RefusesSections described i status) same.0 parts.refused

-- sections are refused with one status
pub sections_refused_once : (described : Description) (input : List ℕ) (status other : Status)
    → RefusesSections described input status → RefusesSections described input other → status ≡ other
sections_refused_once described input status other first second =
    first.status_is ∙ ap section_status (refusal_once described input first.fault second.fault first.refused second.refused)
    ∙ sym second.status_is
