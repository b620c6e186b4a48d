-- What a Fresh needs to go to another thread, or to be shared with one, over a payload of any type.
use denote.RattleType.{RattleType}
use denote.Param.Send.{IsSend, IsSync, sendable}
use Rattle.std.proofs.Crossing.{crosses}
use Rattle.lock_rules.specs.declared.payload.Payload.{Ghosts}
use Rattle.fresh_root.specs.contracts.fresh.Fresh as Fresh
use Rattle.fresh_root.specs.contracts.history.History as History

pub fresh_sent : IsSend History.the_row → (P : RattleType) (g : Ghosts P.Denot) → IsSend P → IsSend (Fresh.the_row P g)
fresh_sent history P g payload = search (sendable, crosses) depth 20

pub fresh_shared : IsSync History.the_row → (P : RattleType) (g : Ghosts P.Denot) → IsSync P → IsSync (Fresh.the_row P g)
fresh_shared history P g payload = search (sendable, crosses) depth 20
