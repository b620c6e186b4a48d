use Rattle.std.proofs.Common.{[]}
use Rattle.cohort_desks.proofs.Kept.{other_slots}
use Rattle.cohort_desks.proofs.dealing.with_jobs.Goals as goal

pub returns-clause-hall : goal.returns-clause-hall
returns-clause-hall g c =
    let is = c.requires.hall in
    let fit = c.requires.fit in
    other_slots _ _ (g.T.Tells.told c.args._roll.now) _ [] c.args.hall c.put_all-slots.result is c.put_all-slots.ensures.many
    (c.put_all-slots.ensures.own (g.T.Tells.told c.args._roll.now) fit is.own) (λ x there. c.put_all-slots.ensures.there (g.T.Tells.told
    c.args._roll.now) fit x there)
