use denote.Param.Send.{IsSend, sendable}
use Rattle.cohort_queue.specs.contracts.laws.cohorts_are_shared.{J-row}
use Rattle.cohort_queue.proofs.Crossing.{cohort_shared, seat_sent}
use Rattle.cohort_queue.proofs.laws.cohorts_are_shared.Goals as goal

pub returns : goal.returns
returns g c =
    let job : IsSend (J-row g.row.J) = search sendable depth 20 in
    let seat = seat_sent (J-row g.row.J) g.J.Numbered job in
    record { shared = cohort_shared (J-row g.row.J) g.J.Numbered job }
