-- What holds of every printed text.
use Rattle.std.specs.Prelude.{◌≡◌, ◌≤◌, ◌^◌, ℕ, List, length}
use Rattle.keep_local.specs.declared.shape.Shape.{Shape}
use Rattle.keep_local.specs.Shapes.{top_of}
use Rattle.run_texts.specs.Callers.{Placed}
use Rattle.run_texts.specs.Printed.{IsRun}

-- A printed text is that of one list of holds: it tells who held the lock, in order, and at which levels others waited. Callers and tests
-- have 32 bits
abbrev pub OneHistory : Type 0
OneHistory =
    (sections : List Placed) (shape : Shape) (printed : List ℕ) → length sections ≤ 2 ^ 32 → top_of shape ≤ 32
    → (one other : IsRun sections shape printed) → one.holds ≡ other.holds
