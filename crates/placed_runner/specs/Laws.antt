-- What holds of every input.
use Rattle.std.specs.Prelude.{◌≡◌, ◌⊎◌, ℕ, List}
use Rattle.synth_text.specs.declared.description.Description.{Description}
use Rattle.run_faults.specs.declared.fault.SectionFault.{SectionFault}
use Rattle.run_texts.specs.Callers.{Placed}
use Rattle.placed_runner.specs.Sections.{Sections, IsRefused}

-- at most one list of sections fits an input
abbrev pub OneReading : Type 0
OneReading =
    (described : Description) (input : List ℕ) (sections others : List Placed) → Sections described input sections
    → Sections described input others → sections ≡ others

-- at most one refusal does
abbrev pub OneRefusal : Type 0
OneRefusal =
    (described : Description) (input : List ℕ) (fault other : SectionFault) → IsRefused described input fault
    → IsRefused described input other → fault ≡ other

-- and not both
abbrev pub NotBoth : Type 0
NotBoth =
    (described : Description) (input : List ℕ) (sections : List Placed) (fault : SectionFault) → Sections described input sections
    → IsRefused described input fault → ⊥

-- one of the two applies to every input
abbrev pub OneApplies : Type 0
OneApplies =
    (described : Description) (input : List ℕ)
    → ((sections : List Placed) × Sections described input sections) ⊎ ((fault : SectionFault) × IsRefused described input fault)
