-- How a command ends that asks something of a topology.
use Rattle.std.proofs.Common.{◌≡◌, ◌⊎◌, ℕ, List, Ok, Err, inl, inr, ap, sym, subst, ◌∙◌}
use Rattle.std.specs.Prelude.{Result, IsOk}
use Rattle.synth_text.specs.declared.description.Description.{Description}
use Rattle.synth_text.specs.Descriptions.{Describes}
use Rattle.command_texts.specs.declared.status.Status.{Status}
use Rattle.command_texts.specs.declared.status.Status.TheVariants.{Ok as OkStatus, Usage, Malformed, Limit, ReadFault, WriteFault}
use Rattle.command_texts.specs.declared.status.Status.TheVariants.{OutOfMemory}
use Rattle.command_texts.specs.OnTopology.{RefusesOn}
use Rattle.command_texts.specs.Ends.{EndsEarly, HasWritten}
use Rattle.command_texts.specs.TopoText.{DescribesBuilt, TopoRefuses}

module _ {T U : Type 0} where
  -- the same status, where nothing is built and where nothing is printed
  pub err_again : (found status : Status)
      → (◌≡◌ {A = Result T Status} (Err found) (Err status)) ⊎ (◌≡◌ {A = Result T Status} (Err found) (Err OutOfMemory))
      → (◌≡◌ {A = Result U Status} (Err found) (Err status)) ⊎ (◌≡◌ {A = Result U Status} (Err found) (Err OutOfMemory))
  err_again found status (inl is) = let same : found ≡ status = cc in inl (ap Err same)
  err_again found status (inr is) = let same : found ≡ OutOfMemory = cc in inr (ap Err same)

  -- where nothing is built, what is refused is refused with that status
  pub refused_early : (text : List ℕ) (on : Description → Result (List ℕ) Status) (found status : Status)
      → ((other : Status) → TopoRefuses text other
      → (◌≡◌ {A = Result T Status} (Err found) (Err other)) ⊎ (◌≡◌ {A = Result T Status} (Err found) (Err OutOfMemory)))
      → ((described : Description) → DescribesBuilt text described
      → IsOk {T = T} {E = Status} (Err found) ⊎ (◌≡◌ {A = Result T Status} (Err found) (Err OutOfMemory)))
      → RefusesOn text on status
      → (◌≡◌ {A = Result U Status} (Err found) (Err status)) ⊎ (◌≡◌ {A = Result U Status} (Err found) (Err OutOfMemory))
  refused_early text on found status refused complete (inl refuses) = err_again found status (refused status refuses)
  refused_early text on found status refused complete (inr answers) =
      elim (complete answers.described answers.built) [
        | inl built ↦ cc
        | inr memory ↦ let same : found ≡ OutOfMemory = cc in inr (ap Err same)
      ]

-- what is built isn't refused
pub not_refused : {T : Type 0} (built : T) (status : Status)
    → (◌≡◌ {A = Result T Status} (Ok built) (Err status)) ⊎ (◌≡◌ {A = Result T Status} (Ok built) (Err OutOfMemory)) → ⊥
not_refused built status (inl is) = cc
not_refused built status (inr is) = cc

-- where a topology is built, what is refused is refused on it
pub refused_on : {T : Type 0} (built : T) (text : List ℕ) (on : Description → Result (List ℕ) Status) (topology : Description)
    (status : Status)
    → ((described : Description) → Describes text described → described ≡ topology)
    → ((other : Status) → TopoRefuses text other
    → (◌≡◌ {A = Result T Status} (Ok built) (Err other)) ⊎ (◌≡◌ {A = Result T Status} (Ok built) (Err OutOfMemory)))
    → RefusesOn text on status → on topology ≡ Err status
refused_on built text on topology status only refused (inl refuses) = absurd (not_refused built status (refused status refuses))
refused_on built text on topology status only refused (inr answers) =
    subst (λ (described : Description). on described ≡ Err status)
    (only answers.described answers.built.describes) answers.answer_is

pub early_silent : (status : Status) → EndsEarly status → HasWritten status → ⊥
early_silent OkStatus early written = early
early_silent Usage early written = early
early_silent (Malformed fault) early written = written
early_silent (Limit fault) early written = written
early_silent ReadFault early written = early
early_silent (WriteFault count) early written = early
early_silent OutOfMemory early written = written
