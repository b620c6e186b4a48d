-- Ideal turns: each is handed on at the lowest level at which the next caller stands under the same node, as long as the keep-local rule of
-- CLoF lets it stay there.
use Rattle.std.specs.Prelude.{ℕ, ◌+◌, ◌^◌, ◌==◌, ◌&&◌, Bool, false, nat_lt, min, sum, map, List, [], ◌∷◌, ◌++◌, Option, Some, None}
use Rattle.std.specs.Prelude.{slice_get, slice_index, if◌then◌else◌}
use Rattle.std.specs.List.{range_with_len, position_or_len}
use Rattle.keep_local.specs.declared.shape.Shape.{Shape}
use Rattle.keep_local.specs.declared.turn.Turn.{Turn}
use Rattle.keep_local.specs.Shapes.{top_of, node_of}
use Rattle.keep_local.specs.Turns.{run, climb_after}

-- whether there is a next caller, and it stands under the same node at a level
abbrev pub is_near : Shape → ℕ → Option ℕ → ℕ → Bool
is_near shape caller None level = false
is_near shape caller (Some next) level = node_of shape caller level == node_of shape next level

-- whether the turn behind some turns can be handed on at a level: the next caller is near, and the run of the level is below its keep
abbrev pub can_stay : Shape → List Turn → ℕ → Option ℕ → ℕ → Bool
can_stay shape before caller next level = is_near shape caller next level && nat_lt (run level before) (slice_index shape.keeps level)

-- the least level below the top at which it can be handed on, or the top
abbrev pub ideal_left : Shape → List Turn → ℕ → Option ℕ → ℕ
ideal_left shape before caller next = position_or_len (can_stay shape before caller next) (range_with_len 0 (top_of shape))

-- the tests: the bits of those levels up to the one at which it is handed on, and below the top, at which the next caller is near
abbrev pub near_bit : Shape → ℕ → Option ℕ → ℕ → ℕ
near_bit shape caller next level = if is_near shape caller next level then 2 ^ level else 0

abbrev pub ideal_tests : Shape → ℕ → Option ℕ → ℕ → ℕ
ideal_tests shape caller next left = sum (map (near_bit shape caller next) (range_with_len 0 (min (left + 1) (top_of shape))))

-- the turn of a caller behind some turns, with the caller of the next turn, if there is one
abbrev pub ideal_turn : Shape → List Turn → ℕ → Option ℕ → Turn
ideal_turn shape before caller next = record {
  caller = caller;
  climb = climb_after shape before;
  tests = ideal_tests shape caller next (ideal_left shape before caller next);
  left = ideal_left shape before caller next;
}

-- the turns of these callers behind some turns
abbrev pub turns_behind : Shape → List Turn → List ℕ → List Turn
turns_behind shape before [] = []
turns_behind shape before (caller ∷ callers) =
    ideal_turn shape before caller (slice_get callers 0)
    ∷ turns_behind shape (before ++ ideal_turn shape before caller (slice_get callers 0) ∷ []) callers

-- the turns of these callers
abbrev pub ideal_turns : Shape → List ℕ → List Turn
ideal_turns shape callers = turns_behind shape [] callers
