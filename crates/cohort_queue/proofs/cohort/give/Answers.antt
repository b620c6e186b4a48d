use Rattle.cohort_queue.proofs.Kept.{gives, leaves_room}
use Rattle.cohort_queue.proofs.Giving.{live_unsplit}
use Rattle.cohort_queue.proofs.cohort.give.Goals as goal

pub push_as-requires-clause-rule : goal.push_as-requires-clause-rule
push_as-requires-clause-rule g c =
    let r = c.requires in (gives _ _ _ _ _ _ r.queue.1 r.alone r.new r.tag, leaves_room _ _ _ _ (live_unsplit _ r.alone))
