-- The sections of an input: each is a head on a line of its own, as many bytes as it tells, and a line end.
use Rattle.std.specs.Prelude.{◌≡◌, ◌⊎◌, ℕ, ◌-◌, ◌<◌, ◌≤◌, List, [], ◌∷◌, ◌++◌, length, map, Some, None}
use Rattle.std.specs.List.{enumerate_from}
use Rattle.byte_text.specs.Cuts.{IsCutAt}
use Rattle.synth_text.specs.declared.description.Description.{Description}
use Rattle.placed_runner.specs.declared.place.Place.{Place}
use Rattle.placed_runner.specs.declared.place.Place.TheVariants.{Anywhere}
use Rattle.run_faults.specs.declared.fault.SectionFault.{SectionFault}
use Rattle.run_faults.specs.declared.fault.SectionFault.TheVariants.{BadHead, BadPlace, Short, TooManyCallers, OutOfMemory}
use Rattle.run_texts.specs.Callers.{Placed, caller_limit}
use Rattle.placed_runner.specs.Heads.{Head, head_of}
use Rattle.placed_runner.specs.Places.{place_of, pu_on}

-- a section as it is written, once its place is read
pub record Written : Type 0 where
  pub place : Place
  pub bytes : List ℕ

-- a section whose caller may stand on any PU
abbrev pub anywhere : List ℕ → Written
anywhere bytes = record { place = Anywhere; bytes = bytes }

-- the first line of a text is a head
pub record HasHead (text : List ℕ) (head : Head) : Type 0 where
  pub line : List ℕ
  pub behind : List ℕ
  pub cut : IsCutAt 10 text line behind
  pub head_is : head_of line ≡ Some head

-- a text begins with a section, behind which something stands
pub record BeginsWith (described : Description) (text : List ℕ) (section : Written) (behind : List ℕ) : Type 0 where
  pub line : List ℕ
  pub head : Head
  pub cut : IsCutAt 10 text line (section.bytes ++ 10 ∷ behind)
  pub head_is : head_of line ≡ Some head
  pub size : length section.bytes ≡ head.size
  pub place : place_of described head.place ≡ Some section.place

-- a text is these sections, one behind another, and then a rest
abbrev pub ReadsTo : Description → List ℕ → List Written → List ℕ → Type 0
ReadsTo described text [] rest = text ≡ rest
ReadsTo described text (section ∷ sections) rest =
    (behind : List ℕ) × BeginsWith described text section behind × ReadsTo described behind sections rest

-- an input is these sections, at most 256
pub record AreSections (described : Description) (input : List ℕ) (sections : List Written) : Type 0 where
  pub whole : ReadsTo described input sections []
  pub few : length sections ≤ caller_limit

-- the rule that a text breaks which isn't empty and stands at an offset of the input
abbrev pub FrontBreaks : Description → ℕ → List ℕ → SectionFault → Type 0
FrontBreaks described offset text (BadHead at) = (at ≡ offset) × ((head : Head) → HasHead text head → ⊥)
FrontBreaks described offset text (BadPlace at) =
    (at ≡ offset) × ((head : Head) × HasHead text head × (place_of described head.place ≡ None))
FrontBreaks described offset text (Short at) =
    (at ≡ offset) × ((head : Head) × (place : Place) × HasHead text head × (place_of described head.place ≡ Some place)
    × ((section : Written) (behind : List ℕ) → BeginsWith described text section behind → ⊥))
FrontBreaks described offset text TooManyCallers = ⊥
FrontBreaks described offset text OutOfMemory = ⊥

-- the first rule that is broken behind so many sections
abbrev pub Breaks : Description → ℕ → ℕ → List ℕ → SectionFault → Type 0
Breaks described callers offset text fault =
    ((callers ≡ caller_limit) × (fault ≡ TooManyCallers)) ⊎ ((callers < caller_limit) × FrontBreaks described offset text fault)

-- an input is refused: behind some sections stands something that breaks a rule
pub record IsRefused (described : Description) (input : List ℕ) (fault : SectionFault) : Type 0 where
  pub sections : List Written
  pub rest : List ℕ
  pub reads : ReadsTo described input sections rest
  pub some : 0 < length rest
  pub broken : Breaks described (length sections) (length input - length rest) rest fault

-- the section of the caller with this number, of n callers
abbrev pub placed_at : Description → ℕ → ℕ × Written → Placed
placed_at described n at = record { pu = pu_on described n at.0 at.1.place; bytes = at.1.bytes }

-- the sections with their callers' PUs
unfoldable pub placed : Description → List Written → List Placed
placed described sections = map (placed_at described (length sections)) (enumerate_from 0 sections)

-- an input is the spelling of these sections, with their callers' PUs
pub record Sections (described : Description) (input : List ℕ) (sections : List Placed) : Type 0 where
  pub written : List Written
  pub are : AreSections described input written
  pub placed_are : sections ≡ placed described written
