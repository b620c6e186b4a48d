-- The printed text of a run with its receipts.
use Rattle.std.specs.Prelude.{◌≡◌, ℕ, List, ◌++◌, map, codes, decimal}
use Rattle.std.specs.List.{enumerate_from, flat_map}
use Rattle.keep_local.specs.declared.shape.Shape.{Shape}
use Rattle.run_texts.specs.Printed.{IsRun}
use Rattle.run_texts.specs.Callers.{Placed}
use Rattle.fresh_runner.specs.Places.{places_of}
use Rattle.fresh_runner.specs.declared.account.Marks.{Marks}

-- numbers, each behind a space
abbrev pub spaced : List ℕ → List ℕ
spaced numbers = flat_map (λ number. codes " " ++ decimal number) numbers

-- the line of a caller's receipts: its own number, and those of its turns
unfoldable pub receipts_line : ℕ → List ℕ → List ℕ
receipts_line caller turns = codes "receipts " ++ decimal caller ++ spaced turns ++ codes "\n"

-- the lines of callers with these marks
abbrev pub marks_lines : List Marks → List ℕ
marks_lines marks = flat_map (λ at. receipts_line at.0 at.1) (enumerate_from 0 (map (λ m. m.turns.items) marks))

-- the lines of all callers, in order, where the turns are by these callers
abbrev pub receipts_lines : List Placed → List ℕ → List ℕ
receipts_lines sections callers = flat_map (λ at. receipts_line at.0 (places_of at.0 callers)) (enumerate_from 0 sections)

-- what is printed is the text of a run (`IsRun`), and behind it for each caller the numbers of its turns
pub record IsMarkedRun (sections : List Placed) (shape : Shape) (printed : List ℕ) : Type 0 where
  pub out : List ℕ
  pub run : IsRun sections shape out
  pub printed_is : printed ≡ out ++ receipts_lines sections (map (λ hold. hold.caller) run.holds)
