-- What holds of every printed text.
use Rattle.std.specs.Prelude.{◌≡◌, ◌⊎◌, ◌^◌, ◌<◌, ◌≤◌, ℕ, List, length}
use Rattle.keep_local.specs.declared.shape.Shape.{Shape}
use Rattle.keep_local.specs.Shapes.{top_of}
use Rattle.run_texts.specs.Callers.{Placed}
use Rattle.run_texts.specs.Printed.{IsRun}
use Rattle.run_check.specs.Broken.{IsFirstBroken}

-- the text of a run has no broken line
abbrev pub RunIsWhole : Type 0
RunIsWhole =
    (sections : List Placed) (shape : Shape) (printed : List ℕ) → length sections < 2 ^ 32 → top_of shape ≤ 32
    → IsRun sections shape printed → (number : ℕ) → IsFirstBroken sections shape printed number → ⊥

-- a text has at most one first broken line
abbrev pub OneIsFirst : Type 0
OneIsFirst =
    (sections : List Placed) (shape : Shape) (printed : List ℕ) (number other : ℕ) → length sections < 2 ^ 32 → top_of shape ≤ 32
    → IsFirstBroken sections shape printed number → IsFirstBroken sections shape printed other → number ≡ other

-- a text is that of a run, or has a first broken line
abbrev pub OneApplies : Type 0
OneApplies =
    (sections : List Placed) (shape : Shape) (printed : List ℕ) → length sections < 2 ^ 32 → top_of shape ≤ 32
    → IsRun sections shape printed ⊎ ((number : ℕ) × IsFirstBroken sections shape printed number)
