-- Callers that give the commands of their sections one by one.
use Rattle.std.specs.Prelude.{◌≡◌, ℕ, List, ◌++◌, length, Some, slice_get, ◌==◌}
use Rattle.std.specs.List.{count_by}
use Rattle.mc_text.specs.Request.{WholeCommand}
use Rattle.mc_text.specs.Reading.{commands_of}

-- these commands of a caller's section are left: those before them were given, each in one call
pub record HasLeft (sections : List (List ℕ)) (calls : List ℕ) (caller : ℕ) (left : List WholeCommand) : Type 0 where
  pub section : List ℕ
  pub given : List WholeCommand
  pub place : slice_get sections caller ≡ Some section
  pub commands_are : commands_of section ≡ given ++ left
  pub count : length given ≡ count_by (λ other. other == caller) calls
