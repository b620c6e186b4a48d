-- What lawful turns imply, in words of their own.
use Rattle.std.specs.Prelude.{◌≡◌, ℕ, ◌<◌, ◌≤◌, List, ◌++◌, ◌==◌, nat_lt, ◌&&◌, All, slice_index}
use Rattle.std.specs.Int.{bit_at}
use Rattle.std.specs.List.{count_by, enumerate_from, position_or_len}
use Rattle.keep_local.specs.declared.shape.Shape.{Shape}
use Rattle.keep_local.specs.declared.turn.Turn.{Turn}
use Rattle.keep_local.specs.Shapes.{top_of}
use Rattle.keep_local.specs.Turns.{run, climb_after, Follows, IsLawful}

-- Among lawful turns, any that stand together without one that left higher than a level have at most as many that left at this level as it
-- keeps: so between two turns that left higher, and before the first
abbrev pub KeepsAtMost : Type 0
KeepsAtMost = (shape : Shape) (level : ℕ) (before between after : List Turn) → IsLawful shape (before ++ (between ++ after))
    → level < top_of shape
    → All (λ t. t.left ≤ level) between → count_by (λ t. t.left == level) between ≤ slice_index shape.keeps level

-- the least level whose test is set and whose run is below its keep, or the top
abbrev pub left_of : Shape → List Turn → ℕ → ℕ
left_of shape before tests = position_or_len (λ at. bit_at tests at.0 == 1 && nat_lt (run at.0 before) at.1) (enumerate_from 0 shape.keeps)

-- the turn that this caller makes behind these turns, with these tests
abbrev pub turn_after : Shape → List Turn → ℕ → ℕ → Turn
turn_after shape before caller tests =
    record { caller = caller; climb = climb_after shape before; tests = tests; left = left_of shape before tests }

-- a turn that follows others is fixed by the shape, these, its caller and its tests
abbrev pub TurnIsFixed : Type 0
TurnIsFixed = (shape : Shape) (before : List Turn) (t : Turn) → Follows shape before t → t ≡ turn_after shape before t.caller t.tests
