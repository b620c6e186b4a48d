-- What a run prints.
use Rattle.std.specs.Prelude.{◌≡◌, ℕ, ◌<◌, List, [], length, slice_get, IfSome, Some, ◌==◌}
use Rattle.std.specs.List.{All, count_by}
use Rattle.mc_text.specs.Reading.{commands_of}
use Rattle.keep_local.specs.declared.shape.Shape.{Shape}
use Rattle.keep_local.specs.Shapes.{top_of}
use Rattle.keep_local.specs.Turns.{IsLawful, last_turn}
use Rattle.run_texts.specs.Callers.{Placed}
use Rattle.run_texts.specs.Text.{Hold, run_text, turns_behind}

-- Each caller with a section holds the lock as often as its section has commands
abbrev pub EachHoldsAll : List Placed → List Hold → Type 0
EachHoldsAll sections holds =
    (caller : ℕ) (section : Placed) → slice_get sections caller ≡ Some section
    → count_by (λ hold. hold.caller == caller) holds ≡ length (commands_of section.bytes)

-- What is printed is the text of a run of these sections under a lock of this shape: of holds by callers with sections, each of which gives
-- all commands of its section. The turns of these holds are lawful, and the last one leaves the lock free, at the top
pub record IsRun (sections : List Placed) (shape : Shape) (printed : List ℕ) : Type 0 where
  pub holds : List Hold
  pub callers : All (λ hold. hold.caller < length sections) holds
  pub each_own : EachHoldsAll sections holds
  pub printed_is : printed ≡ run_text sections shape holds
  pub lawful : IsLawful shape (turns_behind shape [] holds)
  pub ends : IfSome (last_turn (turns_behind shape [] holds)) (λ t. t.left ≡ top_of shape)
