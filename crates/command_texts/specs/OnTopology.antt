-- How a command is answered that asks something of a topology.
use Rattle.std.specs.Prelude.{◌≡◌, ◌⊎◌, ℕ, List, Result, Ok, Err}
use Rattle.synth_text.specs.declared.description.Description.{Description}
use Rattle.command_texts.specs.declared.status.Status.{Status}
use Rattle.command_texts.specs.TopoText.{DescribesBuilt, TopoRefuses}

-- the text describes something that is built, and this is the answer on it
pub record AnswersOn (text : List ℕ) (on : Description → Result (List ℕ) Status) (answer : Result (List ℕ) Status) : Type 0 where
  pub described : Description
  pub built : DescribesBuilt text described
  pub answer_is : on described ≡ answer

-- this is printed of what the text describes
abbrev pub PrintsOn : List ℕ → (Description → Result (List ℕ) Status) → List ℕ → Type 0
PrintsOn text on printed = AnswersOn text on (Ok printed)

-- the description is refused, or what is asked of it
abbrev pub RefusesOn : List ℕ → (Description → Result (List ℕ) Status) → Status → Type 0
RefusesOn text on status = TopoRefuses text status ⊎ AnswersOn text on (Err status)
