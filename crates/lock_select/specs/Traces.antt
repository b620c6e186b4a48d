-- A trace: the PUs of the callers who take a lock, one a line, in the order of their turns. The form is this project's own.
use Rattle.std.specs.Prelude.{◌≡◌, ◌⊎◌, ℕ, ◌-◌, ◌^◌, ◌<◌, ◌≤◌, List, [], ◌∷◌, length, All, nat_le, Option, Some, None, if◌then◌else◌}
use Rattle.byte_text.specs.Cuts.{IsCutAt}
use Rattle.byte_text.specs.Numerals.{number_below}
use Rattle.synth_text.specs.declared.description.Description.{Description}
use Rattle.synth_text.specs.Rules.{pu_count}
use Rattle.run_faults.specs.declared.select.SelectFault.{SelectFault}
use Rattle.run_faults.specs.declared.select.SelectFault.TheVariants as faults

-- how many turns a trace may have
abbrev pub turn_limit : ℕ
turn_limit = 16384

-- the number of a line of 1 to 10 digits
unfoldable pub line_number : List ℕ → Option ℕ
line_number line = if nat_le (length line) 10 then number_below (2 ^ 64) line else None

-- a text begins with a line that names one of so many PUs, behind which something stands
pub record BeginsWith (pus : ℕ) (text : List ℕ) (pu : ℕ) (behind : List ℕ) : Type 0 where
  pub line : List ℕ
  pub cut : IsCutAt 10 text line behind
  pub number : line_number line ≡ Some pu
  pub place : pu < pus

-- a text is lines that name these PUs, one behind another, and then a rest
abbrev pub ReadsTo : ℕ → List ℕ → List ℕ → List ℕ → Type 0
ReadsTo pus text [] rest = text ≡ rest
ReadsTo pus text (pu ∷ trace) rest = (behind : List ℕ) × BeginsWith pus text pu behind × ReadsTo pus behind trace rest

-- bytes are the lines of a trace, which has at most 16,384 turns
pub record IsTrace (described : Description) (bytes trace : List ℕ) : Type 0 where
  pub whole : ReadsTo (pu_count described) bytes trace []
  pub few : length trace ≤ turn_limit

-- the rule that a text breaks which isn't empty and stands at an offset: that it begins with a line of the right form, and that this names
-- one of so many PUs
abbrev pub FrontBreaks : ℕ → ℕ → List ℕ → SelectFault → Type 0
FrontBreaks pus offset text faults.Weights = ⊥
FrontBreaks pus offset text faults.Keep = ⊥
FrontBreaks pus offset text (faults.Line at) =
    (at ≡ offset) × ((line behind : List ℕ) → IsCutAt 10 text line behind → line_number line ≡ None)
FrontBreaks pus offset text (faults.Place at) =
    (at ≡ offset) × ((line : List ℕ) × (behind : List ℕ) × (number : ℕ) × IsCutAt 10 text line behind × (line_number line ≡ Some number)
    × (pus ≤ number))
FrontBreaks pus offset text faults.TooManyTurns = ⊥
FrontBreaks pus offset text faults.OutOfMemory = ⊥

-- the first rule that is broken behind so many turns
abbrev pub Breaks : ℕ → ℕ → ℕ → List ℕ → SelectFault → Type 0
Breaks pus turns offset text fault =
    ((turns ≡ turn_limit) × (fault ≡ faults.TooManyTurns)) ⊎ ((turns < turn_limit) × FrontBreaks pus offset text fault)

-- bytes are refused: behind some lines stands something that breaks a rule
pub record IsRefused (described : Description) (bytes : List ℕ) (fault : SelectFault) : Type 0 where
  pub trace : List ℕ
  pub rest : List ℕ
  pub reads : ReadsTo (pu_count described) bytes trace rest
  pub some : 0 < length rest
  pub broken : Breaks (pu_count described) (length trace) (length bytes - length rest) rest fault

-- a trace that a choice can use: not too long, and each turn on a PU of the machine
pub record Visits (described : Description) (trace : List ℕ) : Type 0 where
  pub few : length trace ≤ turn_limit
  pub within : All (λ pu. pu < pu_count described) trace
