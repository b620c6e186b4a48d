-- The room of a roll at a hold.
use Rattle.std.proofs.Common.{◌≡◌, ℕ, ◌<◌, List, [], ◌∷◌, ◌++◌, length, ap, sym, ◌∙◌, arith, length-append, Option}
use Rattle.std.proofs.Common.{vec_capacity}
use Rattle.std.specs.Prelude.{sum}
use Rattle.std.proofs.lemmas.List.{length-map}
use Rattle.lock_rules.specs.Tag.{Tag, leaf}
use Rattle.keep_local.specs.declared.shape.Shape.{Shape}
use Rattle.keep_local.specs.declared.turn.Turn.{Turn}
use Rattle.keep_local.specs.States.{ShareState, all_turns, option_list}
use Rattle.clof_compose.specs.Calls.{HasOpened}
use Rattle.clof_compose.specs.Contexts.{IsContextOf}
use Rattle.clof_compose.specs.Courses.{Course, course_of}
use Rattle.clof_compose.specs.declared.root.Root.{Root}
use Rattle.clof_compose.proofs.Tops.{course_is}
use Rattle.level_harness.specs.Rooms.{HasRoom, roll_tag}
use Rattle.level_harness.specs.declared.roll.Roll.{Roll}

abbrev pub calls_of : Roll → List ℕ
calls_of r = r.callers.items

number_of : Tag → ℕ
number_of (leaf n) = n
number_of _ = 0

-- the holder of a lock has room for its call
pub room_left : (t : Tag) (level : ℕ) (share : ShareState) (r : Root Roll) → HasOpened calls_of roll_tag t level share r
    → HasRoom (course_of t) → length r.payload.callers.items < vec_capacity r.payload.callers
unfolding number_of
room_left t level share r has room =
    let is = course_is calls_of roll_tag t r has.tagged in
    let payload : leaf room.room ≡ leaf (vec_capacity r.payload.callers) = sym room.payload_is ∙ ap (λ (c : Course). c.payload) is in
    let capacity : room.room ≡ vec_capacity r.payload.callers = ap number_of payload in
    let quotas : sum (course_of t).quotas ≡ sum r.trail.quotas = ap (λ (c : Course). sum c.quotas) is in
    let enough = room.enough in
    let turn : Turn = has.is_open.turn in
    let all : length (all_turns r.trail) ≡ length (r.trail.closed ++ turn ∷ []) =
    ap (λ (o : Option Turn). length (r.trail.closed ++ option_list o)) has.is_open.now in
    let more = length-append r.trail.closed (turn ∷ []) in
    let within = has.trail.room in
    let called : length r.payload.callers.items ≡ length r.trail.closed = ap length has.calls_are
    ∙ length-map r.trail.closed (λ (u : Turn). u.caller) in
    omega (arith, capacity, quotas, enough, all, more, within, called)

-- the context that a caller stands under at the lowest level
pub lowest_context : (shape : Shape) (caller number : ℕ) → number ≡ caller → IsContextOf shape 0 caller number
lowest_context shape caller number is = record { lowest = λ e. is; higher = λ j e. absurd (omega (arith, e)) }
