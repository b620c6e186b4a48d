-- What holds of every run, and of every check of one.
use Rattle.std.specs.Prelude.{◌≡◌, ◌≤◌, ◌⊎◌, ◌↔◌, ℕ, List, length}
use Rattle.synth_text.specs.declared.description.Description.{Description}
use Rattle.run_texts.specs.Callers.{Placed}
use Rattle.placed_runner.specs.Sections.{Sections}
use Rattle.command_texts.specs.declared.status.Status.{Status}
use Rattle.run_check.specs.declared.verdict.Verdict.TheVariants.{Yes}
use Rattle.run_check.specs.Pairs.{ArePair}
use Rattle.command_words.specs.Asked.{Check, Checking, Run, Running, as_run}
use Rattle.clof_answers.specs.Checking.{verdict_text}
use Rattle.run_check.specs.Pairs.{input_limit}
use Rattle.clof_answers.specs.Run.{holds_in, Refuses}
use Rattle.clof_answers.specs.Outcome.{IsAnswer, InputRefused}

-- what was printed for what is asked for and an input tells one list of holds: who held the lock, in order
abbrev pub OneHistory : Type 0
OneHistory =
    (asked : Running) (input printed : List ℕ) (one other : IsAnswer (Run asked) input printed)
    → holds_in asked.receipts _ _ _ _ one.1.holds.prints.runs ≡ holds_in asked.receipts _ _ _ _ other.1.holds.prints.runs

-- at most one refusal fits what is asked for and an input
abbrev pub OneRefusal : Type 0
OneRefusal =
    (asked : Running) (input : List ℕ) (status other : Status) → InputRefused (Run asked) input status
    → InputRefused (Run asked) input other → status ≡ other

-- an input that is refused has no text
abbrev pub NotBoth : Type 0
NotBoth =
    (asked : Running) (input printed : List ℕ) (status : Status) → IsAnswer (Run asked) input printed
    → InputRefused (Run asked) input status → ⊥

-- on a topology each input is some sections, or it is refused
abbrev pub OneApplies : Type 0
OneApplies =
    (described : Description) (input : List ℕ)
    → ((length input ≤ input_limit) × ((sections : List Placed) × Sections described input sections))
    ⊎ ((status : Status) × Refuses described input status)

-- ---- checks

-- bytes have one answer of `check`
abbrev pub OneText : Type 0
OneText =
    (asked : Checking) (bytes text other : List ℕ) → IsAnswer (Check asked) bytes text → IsAnswer (Check asked) bytes other
    → text ≡ other

-- it is yes exactly where `run` with the same words may print the printed text for the input
abbrev pub YesWhereRun : Type 0
YesWhereRun =
    (asked : Checking) (bytes input printed text : List ℕ) → ArePair bytes input printed → IsAnswer (Check asked) bytes text
    → (text ≡ verdict_text Yes) ↔ IsAnswer (Run (as_run asked)) input printed

-- at most one refusal fits what is asked for and some bytes
abbrev pub OneCheckRefusal : Type 0
OneCheckRefusal =
    (asked : Checking) (bytes : List ℕ) (status other : Status) → InputRefused (Check asked) bytes status
    → InputRefused (Check asked) bytes other → status ≡ other

-- bytes that are refused have no answer
abbrev pub TextOrRefusal : Type 0
TextOrRefusal =
    (asked : Checking) (bytes text : List ℕ) (status : Status) → IsAnswer (Check asked) bytes text
    → InputRefused (Check asked) bytes status → ⊥
