-- The laws of commands and sections.
use Rattle.std.specs.Prelude.{◌≡◌, ℕ, List}
use Rattle.mc_text.specs.Request.{WholeCommand}
use Rattle.mc_text.specs.Begins.{Begins}
use Rattle.mc_text.specs.Section.{Spelled}
use Rattle.mc_text.specs.Reading.{commands_of, rest_of}

-- whole commands that begin one text are one command, of one length
abbrev pub AtMostOneCommand : Type 0
AtMostOneCommand =
    (text : List ℕ) (first second : WholeCommand) (m n : ℕ) → Begins text first m → Begins text second n → (first ≡ second) × (m ≡ n)

-- the commands that are read of a section, and its rest, fit it
abbrev pub EachSectionIsRead : Type 0
EachSectionIsRead = (section : List ℕ) → Spelled section (commands_of section) (rest_of section)

-- no others do
abbrev pub OneReading : Type 0
OneReading =
    (section : List ℕ) (commands others : List WholeCommand) (rest other_rest : List ℕ) → Spelled section commands rest
    → Spelled section others other_rest → (commands ≡ others) × (rest ≡ other_rest)
