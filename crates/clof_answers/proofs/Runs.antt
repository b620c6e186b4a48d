-- The callers of a run, by their sections.
use Rattle.std.proofs.Common.{◌≡◌, ℕ, ◌<◌, Bool, true, false, List, [], ◌∷◌, length, map, refl, sym, ap, subst, arith}
use Rattle.std.proofs.lemmas.List.Elements.{All-nil}
use Rattle.keep_local.specs.declared.shape.Shape.{Shape}
use Rattle.run_texts.specs.declared.section.Section.{Section}
use Rattle.run_texts.specs.Printed.{IsRun}
use Rattle.run_texts.specs.Callers.{Placed}
use Rattle.run_texts.specs.Text.{Hold, run_text}
use Rattle.run_texts.specs.Views.{section_view}
use Rattle.synth_text.specs.declared.description.Description.{Description}
use Rattle.lock_plan.specs.declared.plan.Plan.{Plan}
use Rattle.lock_plan.specs.Shapes.{IsShapeOf}
use Rattle.fresh_runner.specs.Receipts.{IsMarkedRun}
use Rattle.clof_answers.specs.Run.{MarksUnder, PrintsRun, RunsUnder}

-- the PUs of the callers
pub pus_of : (sections : List Section)
    → map (λ (section : Section). section.pu) sections ≡ map (λ (section : Placed). section.pu) (map section_view sections)
pus_of [] = refl
pus_of (section ∷ sections) = ap (λ (rest : List ℕ). section.pu ∷ rest) (pus_of sections)

no_run : (shape : Shape) → IsRun [] shape []
unfolding run_text
no_run shape = record {
  holds = [];
  callers = All-nil (λ (hold : Hold). hold.caller < 0);
  each_own = λ caller section at. absurd (cc);
  printed_is = refl;
  lawful = tt;
  ends = tt;
}

empty_run : (sections : List Section) (shape : Shape) (printed : List ℕ) → length sections ≡ 0 → printed ≡ []
    → IsRun (map section_view sections) shape printed
empty_run [] shape printed none empty = subst (IsRun [] shape) (sym empty) (no_run shape)
empty_run (section ∷ sections) shape printed none empty = absurd (omega (arith, none))

-- a run under the lock of a plan's shape is one under the lock of the plan
pub runs_under : (described : Description) (plan : Plan) (sections : List Section) (shape : Shape) (printed : List ℕ)
    → IsShapeOf described plan (map (λ (section : Section). section.pu) sections) shape
    → IsRun (map section_view sections) shape printed → RunsUnder described plan (map section_view sections) printed
runs_under described plan sections shape printed is run =
    record { shape = shape; shape_is = subst (λ (pus : List ℕ). IsShapeOf described plan pus shape) (pus_of sections) is; run = run }

-- and so it is with receipts
pub marks_under : (described : Description) (plan : Plan) (sections : List Section) (shape : Shape) (printed : List ℕ)
    → IsShapeOf described plan (map (λ (section : Section). section.pu) sections) shape
    → IsMarkedRun (map section_view sections) shape printed → MarksUnder described plan (map section_view sections) printed
marks_under described plan sections shape printed is marked =
    record { shape = shape; shape_is = subst (λ (pus : List ℕ). IsShapeOf described plan pus shape) (pus_of sections) is; marked = marked }

empty_marked : (sections : List Section) (shape : Shape) (printed : List ℕ) → length sections ≡ 0 → printed ≡ []
    → IsMarkedRun (map section_view sections) shape printed
empty_marked [] shape printed none empty =
    subst (IsMarkedRun [] shape) (sym empty) (record { out = []; run = no_run shape; printed_is = refl })
empty_marked (section ∷ sections) shape printed none empty = absurd (omega (arith, none))

-- the text of no sections is that of a run
none_under : (described : Description) (plan : Plan) (sections : List Section) (shape : Shape) (printed : List ℕ)
    → IsShapeOf described plan (map (λ (section : Section). section.pu) sections) shape → length sections ≡ 0 → printed ≡ []
    → RunsUnder described plan (map section_view sections) printed
none_under described plan sections shape printed is none empty =
    runs_under described plan sections shape printed is (empty_run sections shape printed none empty)

-- with receipts or without
pub none_printed : (receipts : Bool) (described : Description) (plan : Plan) (sections : List Section) (shape : Shape) (printed : List ℕ)
    → IsShapeOf described plan (map (λ (section : Section). section.pu) sections) shape → length sections ≡ 0 → printed ≡ []
    → PrintsRun receipts described plan (map section_view sections) printed
none_printed false described plan sections shape printed is none empty = none_under described plan sections shape printed is none empty
none_printed true described plan sections shape printed is none empty =
    marks_under described plan sections shape printed is (empty_marked sections shape printed none empty)
