use Rattle.std.proofs.Common.{sym, ◌∙◌}
use Rattle.own_payload.proofs.Worked.{may_work}
use Rattle.plan_bench.proofs.jobs.deal_jobs.Goals as goal

pub returns-in-Some-clause-opened : goal.returns-in-Some-clause-opened
returns-in-Some-clause-opened g c = record {
  quotas = c.requires.many ∙ sym c.requires.quotas;
  many = c.in-Some.ensures.many;
  each = c.in-Some.ensures.each;
  emptied = c.in-Some.ensures.emptied;
}

pub returns-in-Some-clause-may : goal.returns-in-Some-clause-may
returns-in-Some-clause-may g c = λ k j e.
    may_work _ _ _ _ _ c.requires.sound_is c.requires.lowest k j (c.in-Some.ensures.each k j e)
