-- What threads that share callers have before them, over a pass of any type, may be shared.
use denote.Ref.{NamedLft}
use denote.RattleType.{RattleType}
use denote.Struct.Declared.{shape}
use denote.Param.Send.{IsSend, IsSync, recorded_sync, sendable, struct_sync}
use Rattle.std.proofs.Crossing.{crosses}
use Rattle.clof_compose.specs.declared.token.Resting.{Ghosts}
use Rattle.cohort_runner.proofs.Crossing.{floor_shared}
use Rattle.run_work.specs.contracts.seated.Room as Room

pub room_shared : (life : NamedLft) (Q : RattleType) (g : Ghosts Q.Denot) → IsSend Q → IsSync (Room.the_row life Q g)
room_shared life Q g pass =
    let room = Room.the_type life Q g in
    recorded_sync _ _ _ room.to_one
    (struct_sync (shape room) (floor_shared life Q g pass, (search (sendable, crosses) depth 20, tt)))
