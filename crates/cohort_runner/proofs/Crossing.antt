-- What a caller that waits needs to go to another thread, and what threads have before them, as a part of a struct, to be shared, over a
-- pass of any type.
use denote.Ref.{NamedLft}
use denote.RattleType.{RattleType}
use denote.Struct.Declared.{shape}
use denote.Param.Send.{IsSend, IsSync, recorded_send, sendable, struct_send, struct_sync, view_send}
use Rattle.std.proofs.Crossing.{crosses}
use Rattle.clof_compose.specs.declared.token.Resting.{Ghosts}
use Rattle.cohort_queue.proofs.Crossing.{cohort_shared}
use Rattle.threaded_runner.proofs.job.Job.TheSendSync.{the_field_send}
use Rattle.cohort_runner.specs.contracts.caller.Caller as Caller
use Rattle.cohort_runner.specs.contracts.caller.Caller.TheInside as inside
use Rattle.cohort_runner.specs.contracts.run.Floor as Floor

pub caller_sent : (life : NamedLft) (Q : RattleType) (g : Ghosts Q.Denot) → IsSend Q → IsSend (Caller.the_row life Q g)
caller_sent life Q g pass =
    let fields : IsSend (inside.the_row life Q g) =
    recorded_send _ _ _ (inside.the_type life Q g).to_one
    (struct_send (shape (inside.the_type life Q g)) (the_field_send life Q pass, (search (sendable, crosses) depth 20, tt))) in
    view_send (inside.the_row life Q g) _ _ _ _ fields

pub floor_shared : (life : NamedLft) (Q : RattleType) (g : Ghosts Q.Denot) → IsSend Q → IsSync (Floor.the_field life Q g).row
floor_shared life Q g pass =
    let caller = caller_sent life Q g pass in
    struct_sync (shape (Floor.the_type life Q g))
    (search (sendable, crosses) depth 20, (search (sendable, crosses, cohort_shared, caller) depth 30 fits 20000, tt))
