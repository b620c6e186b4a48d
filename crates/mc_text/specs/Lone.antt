-- Lines that are told by their first letter.
use Rattle.std.specs.Prelude.{◌≡◌, ℕ, ◌⊎◌, false, List, length, drop, Some}
use Rattle.mc_text.specs.Request.{WholeCommand, is_quit}
use Rattle.mc_text.specs.Reading.{first_command}

-- a letter with which only names of commands begin that are a line by themselves, and not `quit`: one of `dfgimtv`
abbrev pub IsLoneLetter : ℕ → Type 0
IsLoneLetter letter =
    (letter ≡ 100) ⊎ (letter ≡ 102) ⊎ (letter ≡ 103) ⊎ (letter ≡ 105) ⊎ (letter ≡ 109) ⊎ (letter ≡ 116) ⊎ (letter ≡ 118)

-- the text begins with a command other than `quit`, and this stands behind it
pub record Passes (text behind : List ℕ) : Type 0 where
  pub command : WholeCommand
  pub first : first_command text ≡ Some command
  pub goes_on : is_quit command.request ≡ false
  pub behind_is : behind ≡ drop (length command.spelling) text
