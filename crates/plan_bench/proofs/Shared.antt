-- A number that is counted, and whose calls are noted, may be shared between threads.
use denote.Builtin.{u64}
use denote.Struct.Declared.{shape}
use denote.Param.Send.{IsSend, IsSync, part_keyless, recorded_sync, sendable, struct_sync}
use Rattle.std.proofs.Crossing.{crosses}
use Rattle.own_payload.specs.contracts.calls.Calls as Calls
use Rattle.own_payload.specs.contracts.noted.Noted as Noted

calls_sent : IsSend Calls.the_row
calls_sent = search (sendable, crosses) depth 20

calls_shared : IsSync Calls.the_row
calls_shared = record { shared = λ d b o κ q. part_keyless Calls.the_row calls_sent q d b o }

pub count_shared : IsSync (Noted.the_row u64)
count_shared =
    let noted = Noted.the_type u64 in
    recorded_sync _ _ _ noted.to_one (struct_sync (shape noted) (search sendable depth 20, (calls_shared, tt)))
