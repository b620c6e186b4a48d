-- Ideal turns, one after another.
use Rattle.std.proofs.Common.{◌≡◌, ℕ, zero, suc, ◌+◌, ◌-◌, ◌<◌, List, [], ◌∷◌, ◌++◌, length, take, get_or, refl, ap, sym, ◌∙◌, arith}
use Rattle.std.proofs.Common.{Option, Some, length-append, append_assoc}
use Rattle.std.specs.Prelude.{slice_get}
use Rattle.std.specs.Option.{option_map_or}
use Rattle.std.proofs.lemmas.List.{append-nil}
use Rattle.keep_local.specs.declared.shape.Shape.{Shape}
use Rattle.keep_local.specs.declared.turn.Turn.{Turn}
use Rattle.keep_local.specs.Shapes.{top_of}
use Rattle.keep_local.specs.Turns.{climb_after, last_turn}
use Rattle.lock_select.specs.IdealTurns.{ideal_turn, ideal_turns, turns_behind}

length-turns_behind : (shape : Shape) (before : List Turn) (callers : List ℕ) → length (turns_behind shape before callers) ≡ length callers
length-turns_behind shape before [] = refl
length-turns_behind shape before (c ∷ cs) =
    ap suc (length-turns_behind shape (before ++ ideal_turn shape before c (slice_get cs 0) ∷ []) cs)

pub length-ideal_turns : (shape : Shape) (callers : List ℕ) → length (ideal_turns shape callers) ≡ length callers
length-ideal_turns shape callers = length-turns_behind shape [] callers

turn_behind_at : (shape : Shape) (before : List Turn) (callers : List ℕ) (i : ℕ) (d : Turn) → i < length callers
    → get_or (turns_behind shape before callers) i d ≡ ideal_turn shape (before ++ take i (turns_behind shape before callers))
    (get_or callers i 0) (slice_get callers (suc i))
turn_behind_at shape before [] i d h = absurd (omega arith)
turn_behind_at shape before (c ∷ cs) zero d h =
    ap (λ (b : List Turn). ideal_turn shape b c (slice_get cs 0)) (sym (append-nil before))
turn_behind_at shape before (c ∷ cs) (suc i) d h =
    let t : Turn = ideal_turn shape before c (slice_get cs 0) in
    turn_behind_at shape (before ++ t ∷ []) cs i d (omega arith)
    ∙ ap (λ (b : List Turn). ideal_turn shape b (get_or cs i 0) (slice_get cs (suc i)))
    (append_assoc before (t ∷ []) (take i (turns_behind shape (before ++ t ∷ []) cs)))

-- each turn is the ideal one behind those before it
pub turn_at : (shape : Shape) (callers : List ℕ) (i : ℕ) (d : Turn) → i < length callers
    → get_or (ideal_turns shape callers) i d ≡ ideal_turn shape (take i (ideal_turns shape callers)) (get_or callers i 0)
    (slice_get callers (i + 1))
turn_at shape callers i d h =
    turn_behind_at shape [] callers i d h
    ∙ ap (λ (n : ℕ). ideal_turn shape (take i (ideal_turns shape callers)) (get_or callers i 0) (slice_get callers n))
    (let e : suc i ≡ i + 1 = omega arith in e)

pub last_of : (ts : List Turn) (t : Turn) → slice_get (ts ++ t ∷ []) (length ts) ≡ Some t
last_of [] t = refl
last_of (u ∷ ts) t = last_of ts t

pub last_pushed : (ts : List Turn) (t : Turn) → last_turn (ts ++ t ∷ []) ≡ Some t
last_pushed ts t =
    let at : length (ts ++ t ∷ []) - 1 ≡ length ts = omega (arith, length-append ts (t ∷ [])) in
    ap (slice_get (ts ++ t ∷ [])) at ∙ last_of ts t

-- a turn climbs to where the one before it left
pub climb_behind : (shape : Shape) (ts : List Turn) (t : Turn) → climb_after shape (ts ++ t ∷ []) ≡ t.left
climb_behind shape ts t = ap (λ (o : Option Turn). option_map_or (λ (u : Turn). u.left) o (top_of shape)) (last_pushed ts t)
