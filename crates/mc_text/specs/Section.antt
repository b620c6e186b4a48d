-- The commands of a section, and its rest.
use Rattle.std.specs.Prelude.{◌≡◌, ℕ, MatchBool, List, [], ◌∷◌, ◌++◌, length}
use Rattle.std.specs.List.{flat_map}
use Rattle.mc_text.specs.Request.{WholeCommand, is_quit}
use Rattle.mc_text.specs.Begins.{Begins}

-- the spellings of the commands, one after another
abbrev pub spellings : List WholeCommand → List ℕ
spellings commands = flat_map (λ command. command.spelling) commands

-- each command begins what stands from its place on
abbrev pub EachBegins : List WholeCommand → List ℕ → Type 0
EachBegins [] rest = Unit {0}
EachBegins (command ∷ commands) rest =
    Begins (command.spelling ++ (spellings commands ++ rest)) command (length command.spelling) × EachBegins commands rest

-- a text begins with no whole command
abbrev pub NoCommand : List ℕ → Type 0
NoCommand text = (command : WholeCommand) (count : ℕ) → Begins text command count → ⊥

-- no command stands behind `quit`, and without it the rest begins with no whole command
abbrev pub Ends : List WholeCommand → List ℕ → Type 0
Ends [] rest = NoCommand rest
Ends (command ∷ commands) rest = MatchBool (is_quit command.request) (commands ≡ []) (Ends commands rest)

-- the section is these commands, and then a rest
pub record Spelled (section : List ℕ) (commands : List WholeCommand) (rest : List ℕ) : Type 0 where
  pub whole : section ≡ spellings commands ++ rest
  pub each : EachBegins commands rest
  pub ends : Ends commands rest
