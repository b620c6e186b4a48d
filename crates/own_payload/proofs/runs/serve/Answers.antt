use Rattle.own_payload.proofs.Worked.{all_ended, may_work}
use Rattle.own_payload.proofs.runs.serve.Goals as goal

pub by_all-jobs-requires-clause-allowed : goal.by_all-jobs-requires-clause-allowed
by_all-jobs-requires-clause-allowed g c κs within = λ k j e.
    let may = may_work _ _ _ _ _ c.requires.ready.sound_is c.requires.ready.lowest k j (c.in-Some.ensures.each k j e) in
    (may, c.requires.asked j.share.caller)

pub close_ended-requires-clause-each : goal.close_ended-requires-clause-each
close_ended-requires-clause-each g c =
    all_ended _ _ _ _ (g.S.Serves.stops c.args.server.now) c.in-Some.jobs.items c.by_all-jobs.result.items c.by_all-jobs.ensures.many
    c.in-Some.ensures.each c.by_all-jobs.ensures.each
