use Rattle.tree_harness.proofs.Shifts.{may_work}
use Rattle.tree_harness.proofs.jobs.deal_jobs.Goals as goal

pub returns-in-Some-clause-may : goal.returns-in-Some-clause-may
returns-in-Some-clause-may g c = λ k j e.
    may_work _ _ _ _ _ c.requires.sound c.requires.ready.lowest c.requires.ready.dealt.room k j (c.in-Some.ensures.each k j e)
