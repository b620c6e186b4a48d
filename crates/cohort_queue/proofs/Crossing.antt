-- What a Cohort needs to be shared between threads, and a seat to go to another, over jobs of any type.
use denote.RattleType.{RattleType}
use denote.Struct.Declared.{shape}
use denote.Param.Send.{IsSend, IsSync, recorded_send, recorded_sync, sendable, struct_send, struct_sync, view_send, view_sync}
use Rattle.std.proofs.Crossing.{crosses}
use Rattle.atomic_table.proofs.shared.Seat.TheSendSync as table_seat
use Rattle.crossbeam_queue.proofs.array_queue.Slotted.TheSendSync as slotted
use Rattle.cohort_queue.specs.declared.numbered.Numbered.{Ghosts}
use Rattle.cohort_queue.specs.contracts.cohort.Cohort as Cohort
use Rattle.cohort_queue.specs.contracts.cohort.Cohort.TheInside as inside
use Rattle.cohort_queue.specs.contracts.seat.Seat as Seat
use Rattle.cohort_queue.specs.contracts.seat.Seat.TheInside as seat_inside

pub seat_sent : (J : RattleType) (g : Ghosts J.Denot) → IsSend J → IsSend (Seat.the_row J g)
seat_sent J g job =
    let fields : IsSend (seat_inside.the_row J g) =
    recorded_send _ _ _ (seat_inside.the_type J g).to_one
    (struct_send (shape (seat_inside.the_type J g)) (search (sendable, crosses, table_seat.the_send) depth 30 fits 20000, tt)) in
    view_send (seat_inside.the_row J g) _ _ _ _ fields

pub cohort_shared : (J : RattleType) (g : Ghosts J.Denot) → IsSend J → IsSync (Cohort.the_row J g)
cohort_shared J g job =
    let fields : IsSync (inside.the_row J g) =
    recorded_sync _ _ _ (inside.the_type J g).to_one
    (struct_sync (shape (inside.the_type J g))
    (search (sendable, crosses, slotted.the_field_sync) depth 30 fits 20000, (search (sendable, crosses) depth 20, tt))) in
    view_sync (inside.the_row J g) _ _ _ _ fields
