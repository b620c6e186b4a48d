-- What `set` prints: the set of its text in hexadecimal, as a list, and in taskset's form, a line each.
use Rattle.std.specs.Prelude.{◌≡◌, ℕ, Bool, false, true, List, ◌∷◌, ◌++◌, []}
use Rattle.cpu_set.specs.declared.fault.SetFault.{SetFault}
use Rattle.cpu_set.specs.Texts.{hex_text, list_text, taskset_text}
use Rattle.cpu_set.specs.Readings.{ReadsHex, HexRefused, ReadsList, ListRefused}

abbrev pub set_lines : List ℕ → List ℕ
set_lines set = hex_text set ++ (10 ∷ (list_text set ++ (10 ∷ (taskset_text set ++ (10 ∷ [])))))

-- the text is read in hexadecimal, or as a list
abbrev pub ReadsSet : Bool → List ℕ → List ℕ → Type 0
ReadsSet false text set = ReadsHex text set
ReadsSet true text set = ReadsList text set

abbrev pub SetRefused : Bool → List ℕ → SetFault → Type 0
SetRefused false text fault = HexRefused text fault
SetRefused true text fault = ListRefused text fault

-- what is printed is the lines of the set that is read
pub record PrintsSet (list : Bool) (text printed : List ℕ) : Type 0 where
  pub set : List ℕ
  pub reads : ReadsSet list text set
  pub printed_is : printed ≡ set_lines set
