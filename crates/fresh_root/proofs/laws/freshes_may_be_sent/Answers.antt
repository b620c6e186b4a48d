use denote.Param.Send.{sendable}
use Rattle.fresh_root.proofs.laws.freshes_may_be_sent.Goals as goal

pub returns : goal.returns
returns g c =
    let history = c.is_sent.ensures in
    let payload = c.is_sent-2.ensures in
    record { sent = search sendable depth 20 }
