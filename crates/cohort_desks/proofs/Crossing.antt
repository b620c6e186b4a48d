-- What a desk needs to go to another thread, over jobs of any type.
use denote.RattleType.{RattleType}
use denote.Struct.Declared.{shape}
use denote.Param.Send.{IsSend, recorded_send, sendable, struct_send}
use Rattle.std.proofs.Crossing.{Vec-send, crosses}
use Rattle.cohort_queue.specs.declared.numbered.Numbered.{Ghosts}
use Rattle.cohort_queue.proofs.Crossing.{seat_sent}
use Rattle.cohort_desks.specs.contracts.desk.Desk as Desk
use Rattle.cohort_desks.specs.contracts.desk.Place as Place

pub place_sent : (J : RattleType) (g : Ghosts J.Denot) → IsSend J → IsSend (Place.the_row J g)
place_sent J g job =
    recorded_send _ _ _ (Place.the_type J g).to_one
    (struct_send (shape (Place.the_type J g))
    (search (sendable, seat_sent) depth 20 fits 20000, (search (sendable, crosses) depth 20, tt)))

pub desk_sent : (J : RattleType) (g : Ghosts J.Denot) → IsSend J → IsSend (Desk.the_row J g)
desk_sent J g job =
    recorded_send _ _ _ (Desk.the_type J g).to_one
    (struct_send (shape (Desk.the_type J g)) (search sendable depth 20, (search (sendable, crosses, place_sent) depth 30 fits 20000, tt)))
