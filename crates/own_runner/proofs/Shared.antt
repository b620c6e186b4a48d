-- A value that notes its calls may be shared between threads where the value may.
use denote.RattleType.{RattleType}
use denote.Struct.Declared.{shape}
use denote.Param.Send.{IsSend, IsSync, part_keyless, recorded_sync, sendable, struct_sync}
use Rattle.std.proofs.Crossing.{crosses}
use Rattle.own_payload.specs.contracts.calls.Calls as Calls
use Rattle.own_payload.specs.contracts.noted.Noted as Noted

calls_sent : IsSend Calls.the_row
calls_sent = search (sendable, crosses) depth 20

calls_shared : IsSync Calls.the_row
calls_shared = record { shared = λ d b o κ q. part_keyless Calls.the_row calls_sent q d b o }

pub noted_shared : (T : RattleType) → IsSync T → IsSync (Noted.the_row T)
noted_shared T shared = recorded_sync _ _ _ (Noted.the_type T).to_one (struct_sync (shape (Noted.the_type T)) (shared, (calls_shared, tt)))
